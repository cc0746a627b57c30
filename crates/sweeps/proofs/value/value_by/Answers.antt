-- `value_by` tries one listed move after another, until no other changes anything.
use mathlib.Core.Bool.{true}
use mathlib.Core.Logic.{inl, inr}
use mathlib.Core.Path.{◌≡◌, sym, ◌∙◌, subst}
use Prim.Native.Nat.{◌+◌, ◌<◌}
use native.Mathlib.Omega.{arith}
use Rattle.block.proofs.Decide as D
use Rattle.ways.specs.Lines.{count_in}
use Rattle.sweeps.proofs.Trying.{TriedTo, tried_next, tried_valued}
use Rattle.sweeps.proofs.value.value_by.Goals as goal
use Rattle.sweeps.proofs.value.value_by.Goals.{then-w-v+else-is_final, else-w-v}

pub returns-then-is_final : goal.returns-then-is_final
returns-then-is_final g c =
    let more : c.loop-k.k < count_in c.args.ways.now c.args.spot.state true = omega (arith, c.loop-k-test.true, c.count-n.ensures) in
    tried_valued c.requires.valid c.requires.playable.0 c.requires.playable.1 c.requires.into_value.0 c.requires.into_value.1 c.requires.rank_value.0
    c.first_value-v.ensures.0 c.first_value-v.ensures.1 (tried_next more c.loop-k.invariant c.offered-w.ensures.gathered c.offered-w.ensures.upper_bound) (inl (D.truth c.is_final.ensures c.if-is_final.true))

pub loop-k-preserved : goal.loop-k-preserved
loop-k-preserved g c =
    let more : c.loop-k.k < count_in c.args.ways.now c.args.spot.state true = omega (arith, c.loop-k-test.true, c.count-n.ensures) in
    let is : c.if-w-v.v ≡ c.offered-w.result = elim c.if-w-v.branch [ then-w-v+else-is_final w ↦ w.v-is | else-w-v w ↦ w.v-is ∙ sym w.if-w-v.false ] in
    subst (TriedTo c.args.block.now c.args.row c.args.ways.now c.args.ranks.now c.args.spot.state c.args.spot.place c.args.most c.first_value-v.result (c.loop-k.k + 1)) (sym is)
    (tried_next more c.loop-k.invariant c.offered-w.ensures.gathered c.offered-w.ensures.upper_bound)

pub returns : goal.returns
returns g c = tried_valued c.requires.valid c.requires.playable.0 c.requires.playable.1 c.requires.into_value.0 c.requires.into_value.1 c.requires.rank_value.0 c.first_value-v.ensures.0
    c.first_value-v.ensures.1 c.loop-k.invariant (inr (omega (arith, c.loop-k.invariant.within, c.loop-k-test.false, c.count-n.ensures)))
