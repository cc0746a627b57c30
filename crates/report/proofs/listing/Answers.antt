-- `listing` refuses first, and then lists the job that was read.
use mathlib.Core.Path.{refl, sym, ap, subst, ◌∙◌}
use Prim.Native.Nat.{ℕ}
use lib.ListN.{replicate}
use Rattle.block.specs.Refusal.{value}
use Rattle.block.specs.Refusal.{Answer}
use Rattle.std.specs.Prelude.{Ok, Err}
use Rattle.block.proofs.Refusals.{no_refusal, room_cleared}
use Rattle.text.specs.Format.{accepted, refused}
use Rattle.text.specs.Text.{blank, read_call}
use Rattle.report.proofs.Printing.{Tells, outcome_told, read_valid, called}
use Rattle.report.proofs.listing.Goals as goal

pub list_job-requires-clause-valid : goal.list_job-requires-clause-valid
unfolding blank
list_job-requires-clause-valid c =
    let came : Tells c.read.result c.read.new.block (read_call c.args.text.now blank) = outcome_told (read_call c.args.text.now blank) blank c.read.new.block c.read.result c.read.ensures.value c.read.ensures.block_after in
    read_valid c.args.text.now blank _ (subst (λ (a : Answer). Tells a c.read.new.block (read_call c.args.text.now blank)) c.in-Ok.is came)

pub returns-in-Ok : goal.returns-in-Ok
unfolding blank
returns-in-Ok c =
    let came : Tells c.read.result c.read.new.block (read_call c.args.text.now blank) = outcome_told (read_call c.args.text.now blank) blank c.read.new.block c.read.result c.read.ensures.value c.read.ensures.block_after in
    let is = subst (λ (a : Answer). Tells a c.read.new.block (read_call c.args.text.now blank)) c.in-Ok.is came in
    record {
      answer = called c.args.text.now c.args.out.now c.args.ranks.now c.args.moves.now c.if-out-ne-LISTING_BYTES.false c.if-ranks-ne-ROOM_BYTES.false c.if-moves-ne-MOVES_BYTES.false (accepted c.read.new.block) c.list_job.new.out (Ok c.list_job.result) is (value c.list_job.ensures.listing_in);
      kept = tt;
      ranks_after = room_cleared no_refusal (c.list_job.ensures.ranks_after.0 ∙ ap (λ (n : ℕ). replicate n 0) (sym c.if-ranks-ne-ROOM_BYTES.false));
      moves_after = room_cleared no_refusal (c.list_job.ensures.ranks_after.1 ∙ ap (λ (n : ℕ). replicate n 0) (sym c.if-moves-ne-MOVES_BYTES.false));
    }

pub returns-in-Err : goal.returns-in-Err
unfolding blank
returns-in-Err c =
    let came : Tells c.read.result c.read.new.block (read_call c.args.text.now blank) = outcome_told (read_call c.args.text.now blank) blank c.read.new.block c.read.result c.read.ensures.value c.read.ensures.block_after in
    let (stop, is) = subst (λ (a : Answer). Tells a c.read.new.block (read_call c.args.text.now blank)) c.in-Err.is came in
    record {
      answer = called c.args.text.now c.args.out.now c.args.ranks.now c.args.moves.now c.if-out-ne-LISTING_BYTES.false c.if-ranks-ne-ROOM_BYTES.false c.if-moves-ne-MOVES_BYTES.false (refused c.in-Err.r stop) c.args.out.now (Err c.in-Err.r) is refl;
      kept = refl;
      ranks_after = c.leave.ensures;
      moves_after = c.leave-in-Err.ensures;
    }
