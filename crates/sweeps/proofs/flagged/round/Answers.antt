-- `round` works off one flagged place after another.
use mathlib.Core.List.{List}
use mathlib.Core.Path.{◌≡◌, sym, ◌∙◌, subst}
use Prim.Native.Nat.{ℕ, ◌+◌}
use native.Mathlib.Omega.{arith}
use lib.ListN.{get_or}
use Rattle.game.specs.Model.{arena_of}
use Rattle.ways.specs.Back.{Flags}
use Rattle.ways.proofs.Leading.{few}
use Rattle.sweeps.specs.Sweeps.{Worked}
use Rattle.sweeps.proofs.Working.{worked_none, worked_skip, worked_next, worked_as}
use Rattle.sweeps.proofs.flagged.round.Goals as goal
use Rattle.sweeps.proofs.flagged.round.Goals.{then-flags-x-eq1, else-flags-x-eq1}

pub loop-x-init : goal.loop-x-init
loop-x-init c = (omega arith, c.requires.playable.3, worked_none (arena_of c.args.block.now c.args.row.index) c.args.side.most c.args.side.safe c.args.flags.now c.args.ranks.now)

pub bounds-flags-x : goal.bounds-flags-x
bounds-flags-x c = omega (arith, c.loop-x-test.true, c.loop-x.invariant.1.long, few c.args.block.now c.requires.valid c.args.row c.requires.playable.0)

pub work_off-requires : goal.work_off-requires
work_off-requires c = record {
  valid = c.requires.valid;
  playable = (
    c.requires.playable.0,
    c.requires.playable.1,
    omega (arith, c.requires.playable.2, c.loop-x.invariant.2.long),
    c.loop-x.invariant.1.long,
  );
  into_value = (c.requires.into_value, c.loop-x-test.true, c.if-flags-x-eq1.true);
}

pub overflow_step-x : goal.overflow_step-x
overflow_step-x c = omega (arith, c.loop-x-test.true)

pub loop-x-smaller : goal.loop-x-smaller
loop-x-smaller c = omega (arith, c.loop-x-test.true)

pub loop-x-preserved : goal.loop-x-preserved
loop-x-preserved c = let G = arena_of c.args.block.now c.args.row.index in
    let went : Flags c.if-flags-x-eq1.flags × Worked G c.args.side.most c.args.side.safe (c.loop-x.x + 1) c.if-flags-x-eq1.did c.args.flags.now c.if-flags-x-eq1.flags c.args.ranks.now
    c.if-flags-x-eq1.ranks =
    elim c.if-flags-x-eq1.branch [
      | then-flags-x-eq1 w ↦
          let one = w.work_off.ensures.worked in
          worked_as G c.args.side.most c.args.side.safe w.flags-is w.ranks-is w.did-is (
            one.flagged c.loop-x.invariant.1,
            worked_next G c.args.side.most c.args.side.safe c.loop-x.x c.loop-x.did c.args.flags.now c.loop-x.flags _ c.args.ranks.now c.loop-x.ranks _
                c.loop-x.invariant.2 one,
          )
      | else-flags-x-eq1 w ↦
          let none : get_or c.loop-x.flags c.loop-x.x 0 ≡ 0 = unset c.loop-x.invariant.1 c.loop-x.x w.if-flags-x-eq1.false in
          worked_as G c.args.side.most c.args.side.safe w.flags-is w.ranks-is w.did-is
          (c.loop-x.invariant.1, worked_skip G c.args.side.most c.args.side.safe c.loop-x.x c.loop-x.did c.args.flags.now c.loop-x.flags c.args.ranks.now c.loop-x.ranks c.loop-x.invariant.2 none)
    ] in
    (omega (arith, c.loop-x-test.true), went.0, went.1)
  where
    unset : {l : List ℕ} → Flags l → (z : ℕ) → (get_or l z 0 ≡ 1 → ⊥) → get_or l z 0 ≡ 0
    unset f z not-one = omega (arith, f.bits z, not-one)

pub shape_of-flags : goal.shape_of-flags
shape_of-flags c = c.loop-x.invariant.1.long ∙ sym c.requires.playable.3.long

pub shape_of-ranks : goal.shape_of-ranks
shape_of-ranks c = c.loop-x.invariant.2.long

pub returns : goal.returns
returns c = let all : c.loop-x.x ≡ c.args.row.places = omega (arith, c.loop-x.invariant.0, c.loop-x-test.false) in
    record {
      worked = subst (λ (x : ℕ). Worked (arena_of c.args.block.now c.args.row.index) c.args.side.most c.args.side.safe x c.loop-x.did c.args.flags.now c.loop-x.flags
          c.args.ranks.now c.loop-x.ranks) all c.loop-x.invariant.2;
      flags_len_unchanged = c.loop-x.invariant.1.long ∙ sym c.requires.playable.3.long;
    }
