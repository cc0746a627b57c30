-- The listed moves of a state, tried one after another: the value that is gathered over them is that of the position. Assumes nothing.
use mathlib.Core.Bool.{Bool, true, false, not}
use mathlib.Core.List.{List}
use mathlib.Core.Logic.{◌⊎◌, inl, inr, ⊎_elim}
use mathlib.Core.Path.{◌≡◌, ◌∙◌, ap, subst}
use Prim.Native.Nat.{ℕ, ◌+◌, ◌*◌, ◌≤◌, ◌<◌}
use native.Mathlib.Omega.{arith}
use Rattle.block.specs.Layout as L
use Rattle.block.specs.Layout.{Block}
use Rattle.block.specs.Inner.Valid.{Valid}
use Rattle.game.specs.Position.{Position, number}
use Rattle.game.specs.Model.{arena_of}
use Rattle.game.proofs.Blocks.Passing.{valid_proper}
use Rattle.turns.specs.Buffers.{rank_in}
use Rattle.ways.specs.Lines.{count_in, number_in}
use Rattle.ways.specs.Listing.{Listed}
use Rattle.ways.specs.Places.{PlacedAt}
use Rattle.ways.specs.Rows.{Playable}
use Rattle.ways.specs.declared.rows.Row.{Row}
use Rattle.ways.proofs.Placing.{placed_number}
use Rattle.sweeps.specs.Values.{Gathered, MoveOffers, OneOf, Final, Valued}
use Rattle.sweeps.proofs.Gathering.{gathered_none, gathered_next}
use Rattle.sweeps.proofs.Offering.{list_all, all_list}
use Rattle.sweeps.proofs.Valuing.{gathered_valued}

-- what the listed moves offer
abbrev pub offers : Block → Row → List ℕ → List ℕ → ℕ → ℕ → Bool → ℕ → ℕ → Type 0
offers b row ways ranks s x most j = MoveOffers (arena_of b row.index) most (rank_in ranks) s x (number_in ways s true j)

-- v is gathered over the first k of them
pub record TriedTo (b : Block) (row : Row) (ways ranks : List ℕ) (s x : ℕ) (most : Bool) (first k v : ℕ) : Type 0 where
  pub within : k ≤ count_in ways s true
  pub gathered : Gathered (not most) (OneOf k (offers b row ways ranks s x most)) first v
  pub low : v < 65536

module _ {b : Block} {row : Row} {ways ranks : List ℕ} {s x : ℕ} {most : Bool} where
  pub tried_none : {first : ℕ} → first < 65536 → TriedTo b row ways ranks s x most first 0 first
  tried_none {first} low = record { within = omega arith; gathered = gathered_none (not most) (offers b row ways ranks s x most) first; low = low }

  pub tried_next : {first k v w : ℕ} → k < count_in ways s true → TriedTo b row ways ranks s x most first k v → Gathered (not most) (offers b row ways ranks s x most k) v w
      → (v < 65536 → w < 65536) → TriedTo b row ways ranks s x most first (k + 1) w
  tried_next {first} {k} {v} {w} more so_far one low = record { within = omega arith; gathered = gathered_next (not most) (offers b row ways ranks s x most) k first v w so_far.gathered one; low = low so_far.low }

  -- what was gathered over some of the moves is a value, if no other changes anything
  pub tried_valued : Valid b → Playable b row → Listed b row ways → row.into ≡ false → s < L.states b → {rank first k v : ℕ} → rank ≡ rank_in ranks (s * row.places + x)
      → (most ≡ true → first + 1 ≡ rank) → (most ≡ false → first ≡ 0) → TriedTo b row ways ranks s x most first k v → Final most rank v ⊎ (k ≡ count_in ways s true)
      → ((p : Position) → PlacedAt (arena_of b row.index) s x p → Valued (arena_of b row.index) most (rank_in ranks) p v) × (v < 65536)
  tried_valued valid playable listed all state {rank} {first} {k} {v} is most-first least_first tried done = (valued, tried.low)
    where
      valued : (p : Position) → PlacedAt (arena_of b row.index) s x p → Valued (arena_of b row.index) most (rank_in ranks) p v
      valued p placed =
          let G = arena_of b row.index in
          let at = rank_in ranks in
          let here : rank ≡ at (number G p) = is ∙ ap at (ap (λ (c : ℕ). s * c + x) playable.places_are ∙ placed_number G s x p placed) in
          let within = tried.within in
          gathered_valued G (valid_proper b valid) at s x p placed v most first (λ e. most-first e ∙ here) least_first
          (⊎_elim inl (λ (j, l, offer). inr (list_all b valid row playable ways listed all s x state most at v (j, omega arith, offer))) tried.gathered.some)
          (⊎_elim (λ final. inl (subst (λ (r : ℕ). Final most r v) here final))
          (λ (e : k ≡ count_in ways s true). inr (λ w offer. tried.gathered.best w
          (let (j, l, o) = all_list b valid row playable ways listed all s x state most at w offer in (j, omega arith, o)))) done)
