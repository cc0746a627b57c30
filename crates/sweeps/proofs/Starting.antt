-- The first ranks are sound and crowded, so that sweeps may start from them. Assumes nothing.
use mathlib.Core.Bool.{Bool}
use mathlib.Core.List.{List}
use mathlib.Core.Path.{◌≡◌, sym, ◌∙◌, ap, subst}
use Prim.Native.Nat.{ℕ, ◌+◌, ◌/◌, ◌%◌, ◌^◌, ◌≤◌, ◌<◌}
use native.Mathlib.Nat.{mul-add-div_right, div-eq_of_lt}
use native.Mathlib.Omega.{arith}
use Rattle.block.specs.Decide.{Bit}
use Rattle.game.specs.Position.{Arena, Position, IsPosition, number, positions}
use Rattle.game.specs.Inner.Stocks.{stocks_of, stock_places}
use Rattle.game.specs.Table.{never}
use Rattle.turns.specs.Buffers.{rank_in}
use Rattle.game.proofs.Numbers.Decide.{eq?}
use Rattle.game.proofs.Local.Same.{number_below}
use Rattle.ways.proofs.Offsets.{state_and_stocks}
use Rattle.game.proofs.Solving.Sweeping.{first_sound}
use Rattle.sweeps.specs.Values.{Attacks}
use Rattle.sweeps.specs.Sweeps.{KeptFor}
use Rattle.ways.specs.First.{FirstRank}
use Rattle.ways.proofs.Placing.{stocks_below}

-- a position's state is the quotient of its number
pub number_state : (G : Arena) (p : Position) → IsPosition G p → number G p / stock_places G ≡ p.state
number_state G p fits =
    let small = stocks_below G p fits in
    ap (λ (n : ℕ). n / stock_places G) (state_and_stocks G p) ∙ mul-add-div_right (omega (arith, small)) p.state (number G (stocks_of G p)) ∙ ap (p.state +◌) (div-eq_of_lt small) ∙ omega arith

pub bit? : (w s : ℕ) → Dec (Bit w s)
bit? w s = eq? (w / 2 ^ s % 2) 1

module _ (G : Arena) (most : Bool) (safe goal : ℕ) (l : List ℕ) (few : positions G ≤ 6144) (first : (n : ℕ) → n < 6144 → FirstRank never goal (stock_places G) (positions G) n (rank_in l n)) where
  rank_first : (p : Position) → IsPosition G p → (Bit goal p.state → rank_in l (number G p) ≡ 0) × ((Bit goal p.state → ⊥) → rank_in l (number G p) ≡ never)
  rank_first p fits =
      let inside = number_below G p fits in
      let is = first (number G p) (omega arith) in
      let same = number_state G p fits in
      ((λ h. (is.within inside).0 (subst (Bit goal) (sym same) h)), λ fails. (is.within inside).1 (λ h. fails (subst (Bit goal) same h)))

  -- at first a rank is 0 or never
  no_other : (n : ℕ) → n < positions G → rank_in l n < never → rank_in l n ≡ 0
  no_other n inside finite = go (bit? goal (n / stock_places G))
    where
      go : Dec (Bit goal (n / stock_places G)) → rank_in l n ≡ 0
      go (yes h) = ((first n (omega arith)).within inside).0 h
      go (no fails) = absurd (omega (arith, ((first n (omega arith)).within inside).1 fails))

  pub first_kept : KeptFor G most safe goal l
  first_kept = record {
    sound = first_sound G (Bit safe) (Bit goal) (Attacks G most) (λ p. rank_in l (number G p)) (λ p fits. (rank_first p fits).0) (λ p fits. (rank_first p fits).1) (λ p fits. bit? goal p.state);
    crowded = λ n inside finite. omega (arith, no_other n inside finite);
  }
