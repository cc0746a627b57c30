-- Numbers of positions add up, so that the number of what a move leaves is found from two others: of what it takes, and of what it gives.
-- Assumes nothing.
use mathlib.Core.Path.{◌≡◌, refl, sym, ◌∙◌, ap}
use Prim.Native.Nat.{ℕ, zero, suc, ◌+◌, ◌*◌, ◌-◌, ◌<◌, min}
use native.Mathlib.Nat.{mul_assoc, suc-mul, le-mul_of_pos_right}
use native.Mathlib.Omega.{arith}
use Rattle.game.specs.Rbatl.{Bound, limit, unlimited, full_stock, Pays}
use Rattle.game.specs.Position.{Arena, Position, places, IsPosition, number_up_to, number, full, cost, charge, Affordable, outcome}
use Rattle.game.specs.Inner.Stocks.{taken, given, stocks_of, stock_places_up_to, stock_places, takes, gives, offset, refill}
use Rattle.game.proofs.Local.Same.{places_positive, same_number}
use Rattle.game.proofs.Numbers.Decide.{eq?}
use Rattle.game.proofs.Numbers.Stocks.{taken_pays, remaining_net}

-- what is given is a stock, and so is what a full stock pays
given_fits : (b : Bound) (c g : ℕ) → given b c g < places b
given_fits (limit n) c g = omega arith
given_fits unlimited c g = omega arith

pub full_taken : (b : Bound) (c g : ℕ) → Pays b (full_stock b) c g → taken b c g < places b
full_taken (limit n) c g paid = omega arith
full_taken unlimited c g paid = omega arith

pub taken_full : (b : Bound) (c g : ℕ) → taken b c g < places b → Pays b (full_stock b) c g
taken_full (limit n) c g small = omega arith
taken_full unlimited c g small = tt

-- what a stock pays, the full stock pays
pub full_pays : (b : Bound) (s c g : ℕ) → s < places b → Pays b s c g → Pays b (full_stock b) c g
full_pays (limit n) s c g l paid = omega arith
full_pays unlimited s c g l paid = tt

-- a stock fills no further than it is
no_more : (b : Bound) (s t : ℕ) → s < places b → min (full_stock b) (s - t + 0) ≡ s - t
no_more (limit n) s t l = omega arith
no_more unlimited s t l = omega arith

module _ (G : Arena) where
  numbers_add : (n : ℕ) (p x y : Position) → y.state ≡ p.state + x.state → ((r : ℕ) → r < n → y.stock r ≡ p.stock r + x.stock r) → number_up_to G n p + number_up_to G n x ≡ number_up_to G n y
  numbers_add zero p x y state stock = sym state
  numbers_add (suc n) p x y state stock =
      let before : number_up_to G n p + number_up_to G n x ≡ number_up_to G n y = numbers_add n p x y state (λ r l. stock r (omega arith)) in
      let scaled : (number_up_to G n p + number_up_to G n x) * places (G.bounds n) ≡ number_up_to G n y * places (G.bounds n) = ap (λ (k : ℕ). k * places (G.bounds n)) before in
      omega (arith, scaled, stock n (omega arith))

  -- a number of 0 has no stock in it
  pub number_zero : (n : ℕ) (p : Position) → number_up_to G n p ≡ 0 → (r : ℕ) → r < n → p.stock r ≡ 0
  number_zero zero p e r l = absurd (omega arith)
  number_zero (suc n) p e r l = at (number_zero n p (omega (arith, le-mul_of_pos_right (number_up_to G n p) (places_positive (G.bounds n))))) (eq? r n)
    where
      at : ((j : ℕ) → j < n → p.stock j ≡ 0) → Dec (r ≡ n) → p.stock r ≡ 0
      at before (yes last) = ap p.stock last ∙ omega arith
      at before (no ne) = before r (omega arith)

  number_splits : (n : ℕ) (p : Position) → number_up_to G n p ≡ p.state * stock_places_up_to G n + number_up_to G n (stocks_of G p)
  number_splits zero p = omega arith
  number_splits (suc n) p =
      let scaled : number_up_to G n p * places (G.bounds n) ≡ (p.state * stock_places_up_to G n + number_up_to G n (stocks_of G p)) * places (G.bounds n) = ap (λ (k : ℕ). k * places (G.bounds n)) (number_splits n p) in
      omega (arith, scaled, mul_assoc p.state (stock_places_up_to G n) (places (G.bounds n)))

  pub state_and_stocks : (p : Position) → number G p ≡ p.state * stock_places G + number G (stocks_of G p)
  state_and_stocks p = number_splits G.structure.resources p

  -- the full stocks have the last number
  pub last_place : (q : ℕ) → number G (stocks_of G (full G q)) + 1 ≡ stock_places G
  last_place q = upto G.structure.resources
    where
      full_places : (b : Bound) → full_stock b + 1 ≡ places b
      full_places (limit n) = omega arith
      full_places unlimited = omega arith

      upto : (n : ℕ) → number_up_to G n (stocks_of G (full G q)) + 1 ≡ stock_places_up_to G n
      upto zero = omega arith
      upto (suc n) =
          let scaled : (number_up_to G n (stocks_of G (full G q)) + 1) * places (G.bounds n) ≡ stock_places_up_to G n * places (G.bounds n) = ap (λ (k : ℕ). k * places (G.bounds n)) (upto n) in
          omega (arith, scaled, suc-mul (number_up_to G n (stocks_of G (full G q))) (places (G.bounds n)), full_places (G.bounds n))

  module _ (p : Position) (m : ℕ) where
    -- the stocks less what the move takes
    abbrev pub spent : Position
    spent = record { state = 0; stock = λ j. p.stock j - (takes G p m).stock j }

    pub gives_fit : (r : ℕ) → r < G.structure.resources → (gives G p m).stock r < places (G.bounds r)
    gives_fit r l = given_fits (G.bounds r) (cost G p m r) (charge G p m r)

    module _ (fits : IsPosition G p) (paid : Affordable G p m) where
      -- their number is that of the stocks, less that of what the move takes
      pub spent_number : number G spent + offset G p m ≡ number G (stocks_of G p)
      spent_number =
          numbers_add G.structure.resources spent (takes G p m) (stocks_of G p) (omega arith)
          (λ j l. let enough = (taken_pays (G.bounds j) (p.stock j) (cost G p m j) (charge G p m j)).1 (paid j l) in omega arith)

      -- what is given comes on top, as far as there is room
      pub left_stock : (r j : ℕ) → j < G.structure.resources → (outcome G p m r).stock j ≡ min (full_stock (G.bounds j)) (spent.stock j + (gives G p m).stock j)
      left_stock r j l = remaining_net (G.bounds j) (p.stock j) (cost G p m j) (charge G p m j) (paid j l)

      -- where the move gives nothing, that is all
      pub remains_number : refill G p m ≡ 0 → (r : ℕ) → number G (stocks_of G (outcome G p m r)) + offset G p m ≡ number G (stocks_of G p)
      remains_number none r =
          let nothing = number_zero G.structure.resources (gives G p m) none in
          let same : number G (stocks_of G (outcome G p m r)) ≡ number G spent =
          same_number G (stocks_of G (outcome G p m r)) spent
          (refl, λ j l. left_stock r j l ∙ ap (λ (g : ℕ). min (full_stock (G.bounds j)) (spent.stock j + g)) (nothing j l) ∙ no_more (G.bounds j) (p.stock j) ((takes G p m).stock j) (fits.1 j l)) in
          omega (arith, same, spent_number)
