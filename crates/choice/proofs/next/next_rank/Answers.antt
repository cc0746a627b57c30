-- `next_rank` looks for a listed move that the place pays.
use mathlib.Core.Bool.{true, false}
use mathlib.Core.List.{List}
use mathlib.Core.Logic.{inl, inr}
use mathlib.Core.Path.{◌≡◌, refl, sym, ◌∙◌}
use Prim.Native.Nat.{ℕ, ◌<◌}
use native.Mathlib.Omega.{arith}
use Rattle.std.specs.Option.{is_some}
use Rattle.std.specs.Prelude.{Option, None, Some}
use Rattle.block.specs.Layout.{Block}
use Rattle.ways.specs.Lines.{count_in}
use Rattle.ways.specs.declared.rows.Row.{Row}
use Rattle.choice.specs.Choices.{Pays, Lacks, FirstPaid}
use Rattle.choice.proofs.Moving.{spot_placed}
use Rattle.choice.proofs.Marking.{way_forces, free_forces, none_answers}
use Rattle.choice.proofs.next.next_rank.Goals as goal
use Rattle.choice.proofs.next.next_rank.Goals.{then-free-via-then-free, then-free-via-else-free+then-is_some}

-- whether there is a first one tells whether any is paid
module _ (b : Block) (row : Row) (ways : List ℕ) (s x : ℕ) where
  some_paid : (r : Option ℕ) → FirstPaid b row ways s x r → is_some r ≡ true → (k : ℕ) × (k < count_in ways s true) × Pays b row ways s x k
  some_paid None first e = absurd cc
  some_paid (Some k) first e = (k, first.0, first.1)

  none_paid : (r : Option ℕ) → FirstPaid b row ways s x r → is_some r ≡ false → (j : ℕ) → j < count_in ways s true → Lacks b row ways s x j
  none_paid None first e = first
  none_paid (Some k) first e = absurd cc

pub returns-then-free : goal.returns-then-free
returns-then-free c = (
  λ p fits is.
      let here = spot_placed c.args.block.now c.args.row c.requires.playable.0 c.args.spot.state c.args.spot.place c.requires.state_bound.0 c.requires.state_bound.1 p fits is in
      inl (
        refl,
        elim c.then-free.branch [
          | then-free-via-then-free w ↦ free_forces c.args.block.now c.requires.valid c.args.row c.requires.playable.0 c.requires.playable.1 c.args.spot.state c.args.spot.place p here c.args.ways.now c.requires.playable.2 c.requires.state_bound.0 (c.requires.state_bound.2 w.if-free.true)
          | then-free-via-else-free+then-is_some w ↦
              let (k, small, paid) = some_paid c.args.block.now c.args.row c.args.ways.now c.args.spot.state c.args.spot.place w.first_paid.result w.first_paid.ensures (sym w.is_some.ensures ∙ w.if-is_some.true) in
              way_forces c.args.block.now c.requires.valid c.args.row c.requires.playable.0 c.requires.playable.1 c.args.spot.state c.args.spot.place p here _ (((c.requires.playable.2.states c.args.spot.state c.requires.state_bound.0).lines true).only k small) (paid p here)
        ],
      ),
  omega arith,
)

pub returns : goal.returns
returns c = (
  λ p fits is.
      let here = spot_placed c.args.block.now c.args.row c.requires.playable.0 c.args.spot.state c.args.spot.place c.requires.state_bound.0 c.requires.state_bound.1 p fits is in
      inr (
        refl,
        none_answers c.args.block.now c.requires.valid c.args.row c.requires.playable.0 c.requires.playable.1 c.args.spot.state c.args.spot.place p here c.args.ways.now c.requires.playable.2 c.requires.state_bound.0
            (λ j small. none_paid c.args.block.now c.args.row c.args.ways.now c.args.spot.state c.args.spot.place c.first_paid.result c.first_paid.ensures (sym c.is_some.ensures ∙ c.if-is_some.false) j small p here),
      ),
  omega arith,
)
