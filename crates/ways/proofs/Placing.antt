-- Stock places and positions: each place of each state is that of a position, whose number they give. Assumes nothing.
use mathlib.Core.Path.{◌≡◌, sym, ◌∙◌, ap}
use Prim.Native.Nat.{ℕ, zero, suc, ◌+◌, ◌*◌, ◌/◌, ◌%◌, ◌≤◌, ◌<◌}
use native.Mathlib.Nat.{mul_assoc, suc-mul, mul-le-mul_right, mul-add-div_right, mul-add-mod_self_right, mod-eq_of_lt, div-eq_of_lt}
use native.Mathlib.Omega.{arith}
use Rattle.game.specs.Position.{Arena, Position, places, IsPosition, number, number_up_to, positions_up_to, positions}
use Rattle.game.specs.Inner.Stocks.{stocks_of, stock_places_up_to, stock_places}
use Rattle.game.proofs.Local.Same.{position_of, position_fits, position_number}
use Rattle.ways.proofs.Offsets.{state_and_stocks}
use Rattle.ways.specs.Places.{PlacedAt}

-- a position's stocks have a number below the number of stock places
pub stocks_below : (G : Arena) (p : Position) → IsPosition G p → number G (stocks_of G p) < stock_places G
stocks_below G p fits = upto G.structure.resources (omega arith)
  where
    upto : (n : ℕ) → n ≤ G.structure.resources → number_up_to G n (stocks_of G p) < stock_places_up_to G n
    upto zero l = omega arith
    upto (suc n) l = omega (arith, mul-le-mul_right (places (G.bounds n)) (upto n (omega arith)), fits.1 n (omega arith))

-- each stock place of each state is that of a position
module _ (G : Arena) (s x : ℕ) (state : s < G.structure.states) (place : x < stock_places G) where
  all_places : (n : ℕ) → positions_up_to G n ≡ G.structure.states * stock_places_up_to G n
  all_places zero = omega arith
  all_places (suc n) = ap (λ (k : ℕ). k * places (G.bounds n)) (all_places n) ∙ mul_assoc G.structure.states (stock_places_up_to G n) (places (G.bounds n))

  inside : s * stock_places G + x < positions G
  inside =
      let last : suc s * stock_places G ≤ G.structure.states * stock_places G = mul-le-mul_right (stock_places G) state in
      omega (arith, all_places G.structure.resources, last, suc-mul s (stock_places G))

  one_way : (t y : ℕ) → y < stock_places G → s * stock_places G + x ≡ t * stock_places G + y → (t ≡ s) × (y ≡ x)
  one_way t y l e = (
    sym (quotient t y l) ∙ ap (λ (n : ℕ). n / stock_places G) (sym e) ∙ quotient s x place,
    sym (remainder t y l) ∙ ap (λ (n : ℕ). n % stock_places G) (sym e) ∙ remainder s x place,
  )
    where
      quotient : (q r : ℕ) → r < stock_places G → (q * stock_places G + r) / stock_places G ≡ q
      quotient q r h = mul-add-div_right (omega arith) q r ∙ ap (q +◌) (div-eq_of_lt h) ∙ omega arith

      remainder : (q r : ℕ) → r < stock_places G → (q * stock_places G + r) % stock_places G ≡ r
      remainder q r h = mul-add-mod_self_right q (stock_places G) r ∙ mod-eq_of_lt h

  -- a position with the number of a place of a state stands there
  pub number_placed : (p : Position) → IsPosition G p → number G p ≡ s * stock_places G + x → PlacedAt G s x p
  number_placed p fits e =
      let (state, place) = one_way p.state (number G (stocks_of G p)) (stocks_below G p fits) (sym e ∙ state_and_stocks G p) in
      record { fits = fits; state = state; place = place }

  pub place_position : (p : Position) × PlacedAt G s x p
  place_position =
      let p = position_of G (s * stock_places G + x) in
      (p, number_placed p (position_fits G (s * stock_places G + x) inside) (position_number G (s * stock_places G + x)))

-- and its number is that of the position
pub placed_number : (G : Arena) (s x : ℕ) (p : Position) → PlacedAt G s x p → s * stock_places G + x ≡ number G p
placed_number G s x p placed = sym (state_and_stocks G p ∙ ap (λ (q : ℕ). q * stock_places G + number G (stocks_of G p)) placed.state ∙ ap (λ (k : ℕ). s * stock_places G + k) placed.place)
