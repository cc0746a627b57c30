-- `work_off` settles a flagged place, flags those that lead to it where a rank fell, and takes its flag away.
use mathlib.Core.Bool.{Bool, true, false}
use mathlib.Core.Path.{◌≡◌, refl, sym, ◌∙◌, ap, subst}
use native.Mathlib.Omega.{arith}
use lib.ListN.{length, length-set}
use Rattle.ways.specs.Back.{Marked, LedFrom}
use Rattle.ways.proofs.Leading.{few}
use Rattle.sweeps.proofs.Working.{worked_off, truly}
use Rattle.sweeps.proofs.flagged.work_off.Goals as goal
use Rattle.sweeps.proofs.flagged.work_off.Goals.{then-settle_place, else-settle_place}
use Rattle.sweeps.proofs.flagged.work_off.Lts as lts
use Rattle.sweeps.proofs.flagged.work_off.Reads as reads
use Rattle.sweeps.proofs.flagged.work_off.Tie as tie

abbrev At-Joined-settle_place : Type 0
At-Joined-settle_place = lts.Joined1 tie.the-claims reads.Pre reads.Post tie.handed_clauses

-- the flags before that of x is taken away
module _ (c : At-Joined-settle_place) where
  marked : (c.settle_place.result ≡ true → Marked (LedFrom c.args.block.now c.args.row c.args.x) c.args.flags.now c.if-settle_place.flags) × (c.settle_place.result ≡ false
      → c.if-settle_place.flags ≡ c.args.flags.now)
  marked =
      elim c.if-settle_place.branch [
        | then-settle_place w ↦ (
          (λ _. subst (Marked (LedFrom c.args.block.now c.args.row c.args.x) c.args.flags.now) (sym w.flags-is) w.mark.ensures),
          λ other. absurd (truly c.settle_place.result w.if-settle_place.true other),
        )
        | else-settle_place w ↦ ((λ other. absurd (truly c.settle_place.result other w.if-settle_place.false)), λ _. w.flags-is)
      ]

  long : length c.if-settle_place.flags ≡ 256
  long = go c.settle_place.result marked.0 marked.1
    where
      go : (d : Bool) → (d ≡ true → Marked (LedFrom c.args.block.now c.args.row c.args.x) c.args.flags.now c.if-settle_place.flags)
          → (d ≡ false → c.if-settle_place.flags ≡ c.args.flags.now) → length c.if-settle_place.flags ≡ 256
      go true marks same = (marks refl).long ∙ c.requires.playable.3
      go false marks same = ap length (same refl) ∙ c.requires.playable.3

pub bounds-flags-x : goal.bounds-flags-x
bounds-flags-x c = omega (arith, long c.before, c.requires.into_value.1, few c.args.block.now c.requires.valid c.args.row c.requires.playable.0)

pub shape_of-flags : goal.shape_of-flags
shape_of-flags c = length-set c.if-settle_place.flags c.args.x 0 ∙ long c.before ∙ sym c.requires.playable.3

pub returns : goal.returns
returns c = record {
  worked = worked_off c.args.block.now c.requires.valid c.args.row c.requires.playable.0 c.args.ways.now c.requires.playable.1 c.requires.into_value.0 c.args.side.most c.args.side.safe
      c.args.x c.args.flags.now c.if-settle_place.flags c.settle_place.result c.args.ranks.now c.settle_place.new.ranks c.requires.into_value.1 c.requires.into_value.2 c.requires.playable.3
      c.settle_place.ensures (marked c.before).0 (marked c.before).1;
  flags_len_unchanged = length-set c.if-settle_place.flags c.args.x 0 ∙ long c.before ∙ sym c.requires.playable.3;
}
