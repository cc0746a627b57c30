-- The rank of a position of a next row by the listed moves: those that lead into the set. Assumes nothing.
use mathlib.Core.Bool.{true}
use mathlib.Core.List.{List}
use mathlib.Core.Path.{◌≡◌, sym, ◌∙◌}
use Prim.Native.Nat.{ℕ, ◌-◌, ◌/◌, ◌%◌, ◌^◌, ◌<◌}
use native.Mathlib.Omega.{arith}
use Rattle.block.specs.Decide.{Bit}
use Rattle.block.specs.Layout as L
use Rattle.block.specs.Layout.{Block}
use Rattle.block.specs.Inner.Valid.{Valid}
use Rattle.game.specs.Position.{Arena, Position, Affordable, Allowed, Reply, outcome}
use Rattle.game.specs.Inner.Facts.{CanForce, CanAnswer}
use Rattle.game.specs.Model.{arena_of}
use Rattle.game.proofs.Numbers.Decide.{eq?}
use Rattle.game.proofs.Solving.Sides.{unforced}
use Rattle.ways.specs.Lines.{count_in, number_in}
use Rattle.ways.specs.Listing.{LeadsInto, Useful, Listed}
use Rattle.ways.specs.Places.{PlacedAt}
use Rattle.ways.specs.Rows.{Playable}
use Rattle.ways.specs.declared.rows.Row.{Row}
use Rattle.ways.proofs.Leading.{ever_allowed, move_here, free_allowed}
use Rattle.choice.specs.Choices.{LastFree, GoodBy}
use Rattle.choice.proofs.Moving.{into_aimed, aimed_into}
use Rattle.choice.proofs.Searching.{line_none}

module _ (b : Block) (valid : Valid b) (row : Row) (playable : Playable b row) (soon : row.into ≡ true) (s x : ℕ) (p : Position) (placed : PlacedAt (arena_of b row.index) s x p) where
  abbrev G : Arena
  G = arena_of b row.index

  -- a listed move that the place pays leads into the set
  paid_into : (m : ℕ) → Useful b row s m → Affordable G p m → Allowed G p m × ((r : ℕ) → Reply G p r → Bit row.set (outcome G p m r).state)
  paid_into m useful paid =
      let allowed = move_here b valid row playable s x m p placed useful.0.0 paid in
      (allowed, into_aimed b valid row s m p placed.state allowed.0 (useful.1 soon))

  -- so it forces the set, and is good
  pub way_forces : (m : ℕ) → Useful b row s m → Affordable G p m → CanForce G p (λ y. Bit row.set y.state)
  way_forces m useful paid = let (allowed, into) = paid_into m useful paid in (m, allowed, into)

  pub paid_good : (ranks : List ℕ) (own m : ℕ) → Useful b row s m → Affordable G p m → GoodBy b row ranks 3 own p m
  paid_good ranks own m useful paid = paid_into m useful paid

  -- the last one forces it too where it takes nothing, whatever the place
  pub free_forces : (ways : List ℕ) → Listed b row ways → s < L.states b → LastFree ways s → CanForce G p (λ y. Bit row.set y.state)
  free_forces ways listed state (some, nothing) =
      let k = count_in ways s true - 1 in
      let last : k < count_in ways s true = omega arith in
      let useful = ((listed.states s state).lines true).only k last in
      way_forces (number_in ways s true k) useful (free_allowed b valid row playable s x (number_in ways s true k) p placed (useful.0, useful.1 soon, sym ((listed.states s state).effects k last).0 ∙ nothing)).1

  -- and where no listed move is paid, each can be answered
  pub none_answers : (ways : List ℕ) → Listed b row ways → s < L.states b → ((k : ℕ) → k < count_in ways s true → Affordable G p (number_in ways s true k) → ⊥) → CanAnswer G p (λ y. Bit row.set y.state → ⊥)
  none_answers ways listed state none =
      unforced G p (λ y. Bit row.set y.state) (λ y. eq? (row.set / 2 ^ y.state % 2) 1)
      (λ (m, allowed, all).
      line_none (Useful b row s) (λ n. Allowed G p n × LeadsInto b row.index s n row.set) ((listed.states s state).lines true)
      (λ n (here, into) smaller. (ever_allowed b valid row playable s x n p placed here, (λ _. into), λ _ k less free. smaller k less (free_allowed b valid row playable s x k p placed free, free.1)))
      (λ k small h. none k small h.0.1) m (allowed, aimed_into b valid row s m p placed.state allowed.0 all))
