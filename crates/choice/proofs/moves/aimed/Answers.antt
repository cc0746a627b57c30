-- `aimed` compares the worst rank over the replies; in a next row every listed move leads into the set.
use mathlib.Core.Path.{sym, ap, subst}
use Prim.Native.Nat.{ℕ}
use Rattle.block.specs.Inner.Tests.{holds}
use Rattle.game.specs.Position.{MoveOf}
use Rattle.game.specs.Model.{structure_of, coalition_of, arena_of}
use Rattle.choice.specs.Choices.{AllAimed}
use Rattle.rankings.specs.Kinds.{kind_of}
use Rattle.rankings.proofs.ByKind.{decides_as}
use Rattle.choice.proofs.Moving.{until_aimed, always_aimed, into_aimed}
use Rattle.choice.proofs.moves.aimed.Goals as goal

pub returns-in-Next : goal.returns-in-Next
returns-in-Next c p fits is_state leaves = decides_as (ap (λ (k : ℕ). AllAimed c.args.block.now c.args.row c.args.ranks.now k c.args.aim.own p c.args.step.number) (ap kind_of c.in-Next.is))
    (holds (into_aimed c.args.block.now c.requires.valid c.args.row c.args.step.state c.args.step.number p is_state
    (subst (λ (q : ℕ). MoveOf (structure_of c.args.block.now) (coalition_of c.args.block.now c.args.row.index) q c.args.step.number) (sym is_state) c.requires.made.1) (c.requires.leads_into (ap kind_of c.in-Next.is))))

pub worst_at-requires : goal.worst_at-requires
worst_at-requires c = record { valid = c.requires.valid; playable = (c.requires.sought.0.playable, c.requires.sought.1, c.requires.sought.2); made = c.requires.made }

pub returns-in-Always : goal.returns-in-Always
returns-in-Always c p fits is_state leaves = let (w, worst, cut) = c.worst_at.ensures.worst_within p fits is_state leaves in
    decides_as (ap (λ (k : ℕ). AllAimed c.args.block.now c.args.row c.args.ranks.now k c.args.aim.own p c.args.step.number) (ap kind_of c.in-Always.is))
    (always_aimed (arena_of c.args.block.now c.args.row.index) c.args.ranks.now p c.args.step.number w c.worst_at.result (λ k. (c.shared_slice_known-3-1.given k).fits) worst cut)

pub worst_at-requires-in-Until : goal.worst_at-requires-in-Until
worst_at-requires-in-Until c = record { valid = c.requires.valid; playable = (c.requires.sought.0.playable, c.requires.sought.1, c.requires.sought.2); made = c.requires.made }

pub returns-in-Until : goal.returns-in-Until
returns-in-Until c p fits is_state leaves = let (w, worst, cut) = c.worst_at-in-Until.ensures.worst_within p fits is_state leaves in
    decides_as (ap (λ (k : ℕ). AllAimed c.args.block.now c.args.row c.args.ranks.now k c.args.aim.own p c.args.step.number) (ap kind_of c.in-Until.is))
    (until_aimed (arena_of c.args.block.now c.args.row.index) c.args.ranks.now p c.args.step.number w c.worst_at-in-Until.result c.args.aim.own worst cut)
