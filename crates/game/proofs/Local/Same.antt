-- Two positions with the same state and stocks are one position of the game, and a number gives its position back. Assumes nothing.
use mathlib.Core.Bool.{Bool, cond}
use mathlib.Core.Path.{◌≡◌, refl, sym, ◌∙◌, ap, subst}
use Prim.Native.Nat.{ℕ, zero, suc, ◌+◌, ◌*◌, ◌/◌, ◌%◌, ◌≤◌, ◌<◌}
use native.Mathlib.Decide.{ℕ_discrete}
use native.Mathlib.Nat.{div-add-mod', mul-add-div_right, mul-add-mod_self_right, mod-eq_of_lt, div-eq_of_lt, mod-lt, div-lt_iff_lt-mul, mul-le-mul_right}
use native.Mathlib.Omega.{arith}
use lib.Dec.{eqb}
use borrow.Author.Tests.{eq-eqb, ne_eqb}
use Rattle.game.specs.Rbatl.{Bound, limit, unlimited, Pays, remaining}
use Rattle.game.specs.Position.{Arena, Position, places, opponents, MoveOf, IsPosition, number_up_to, number, positions_up_to, positions, Reply, cost, charge, Allowed, outcome}

pub places_positive : (b : Bound) → 0 < places b
places_positive (limit n) = omega arith
places_positive unlimited = omega arith

-- a position has a number below the number of positions, also over the first n resources
pub number_below_upto : (G : Arena) (p : Position) → IsPosition G p → (n : ℕ) → n ≤ G.structure.resources → number_up_to G n p < positions_up_to G n
number_below_upto G p fits zero l = fits.0
number_below_upto G p fits (suc n) l =
    omega (arith, mul-le-mul_right (places (G.bounds n)) (number_below_upto G p fits n (omega arith)), fits.1 n (omega arith))

pub number_below : (G : Arena) (p : Position) → IsPosition G p → number G p < positions G
number_below G p fits = number_below_upto G p fits G.structure.resources (omega arith)

module _ (G : Arena) where
  abbrev pub SameUpTo : ℕ → Position → Position → Type 0
  SameUpTo n p x = (p.state ≡ x.state) × ((r : ℕ) → r < n → p.stock r ≡ x.stock r)

  abbrev pub Same : Position → Position → Type 0
  Same p x = SameUpTo G.structure.resources p x

  pub same_sym : (p x : Position) → Same p x → Same x p
  same_sym p x s = (sym s.0, λ r l. sym (s.1 r l))

  pub same_trans : (p x y : Position) → Same p x → Same x y → Same p y
  same_trans p x y s s' = (s.0 ∙ s'.0, λ r l. s.1 r l ∙ s'.1 r l)

  pub same_number_upto : (n : ℕ) (p x : Position) → SameUpTo n p x → number_up_to G n p ≡ number_up_to G n x
  same_number_upto zero p x s = s.0
  same_number_upto (suc n) p x s =
      let before : number_up_to G n p ≡ number_up_to G n x = same_number_upto n p x (s.0, λ r l. s.1 r (omega arith)) in
      ap (λ (k : ℕ). k * places (G.bounds n) + p.stock n) before ∙ ap (λ (k : ℕ). number_up_to G n x * places (G.bounds n) + k) (s.1 n (omega arith))

  pub same_number : (p x : Position) → Same p x → number G p ≡ number G x
  same_number p x s = same_number_upto G.structure.resources p x s

  pub same_allowed : (p x : Position) (m : ℕ) → Same p x → Allowed G p m → Allowed G x m
  same_allowed p x m s (move, paid) = (
    subst (λ (q : ℕ). MoveOf G.structure G.coalition q m) s.0 move,
    λ r l. subst (λ (y : Position). Pays (G.bounds r) (x.stock r) (cost G y m r) (charge G y m r)) {x = p} {y = record { state = x.state; stock = p.stock }} (ap (λ (q : ℕ). record { state = q; stock = p.stock }) s.0)
        (subst (λ (k : ℕ). Pays (G.bounds r) k (cost G p m r) (charge G p m r)) (s.1 r l) (paid r l)),
  )

  pub same_reply : (p x : Position) (r : ℕ) → Same p x → Reply G p r → Reply G x r
  same_reply p x r s = subst (λ (q : ℕ). MoveOf G.structure (opponents G.coalition) q r) s.0

  pub same_outcome : (p x : Position) (m r : ℕ) → Same p x → Same (outcome G p m r) (outcome G x m r)
  same_outcome p x m r s = (
    ap (λ (q : ℕ). (outcome G (record { state = q; stock = p.stock }) m r).state) s.0,
    λ j l. ap (λ (q : ℕ). remaining (G.bounds j) (p.stock j) (cost G (record { state = q; stock = p.stock }) m j) (charge G (record { state = q; stock = p.stock }) m j)) s.0
        ∙ ap (λ (k : ℕ). remaining (G.bounds j) k (cost G x m j) (charge G x m j)) (s.1 j l),
  )

  -- the position with number n, over the first k resources
  abbrev pub position_up_to : ℕ → ℕ → Position
  position_up_to zero n = record { state = n; stock = λ r. 0 }
  position_up_to (suc k) n =
      let p = position_up_to k (n / places (G.bounds k)) in
      record { state = p.state; stock = λ r. cond (eqb r k) (n % places (G.bounds k)) (p.stock r) }

  abbrev pub position_of : ℕ → Position
  position_of n = position_up_to G.structure.resources n

  -- the stock of the last resource is the remainder, and the others are those of the quotient
  stock_last : (k n : ℕ) → (position_up_to (suc k) n).stock k ≡ n % places (G.bounds k)
  stock_last k n = ap (λ (t : Bool). cond t (n % places (G.bounds k)) ((position_up_to k (n / places (G.bounds k))).stock k)) (eq-eqb k k refl)

  stock_other : (k n r : ℕ) → (r ≡ k → ⊥) → (position_up_to (suc k) n).stock r ≡ (position_up_to k (n / places (G.bounds k))).stock r
  stock_other k n r ne = ap (λ (t : Bool). cond t (n % places (G.bounds k)) ((position_up_to k (n / places (G.bounds k))).stock r)) (ne_eqb r k ne)

  same_upto : (k : ℕ) (p : Position) → ((r : ℕ) → r < k → p.stock r < places (G.bounds r)) → SameUpTo k p (position_up_to k (number_up_to G k p))
  same_upto zero p fits = (refl, λ r l. absurd (omega arith))
  same_upto (suc k) p fits = go (same_upto k p (λ r l. fits r (omega arith)))
    where
      c : ℕ
      c = places (G.bounds k)

      x : ℕ
      x = number_up_to G k p

      quotient : (x * c + p.stock k) / c ≡ x
      quotient = mul-add-div_right (places_positive (G.bounds k)) x (p.stock k) ∙ ap (x +◌) (div-eq_of_lt (fits k (omega arith))) ∙ omega arith

      remainder : (x * c + p.stock k) % c ≡ p.stock k
      remainder = mul-add-mod_self_right x c (p.stock k) ∙ mod-eq_of_lt (fits k (omega arith))

      go : SameUpTo k p (position_up_to k x) → SameUpTo (suc k) p (position_up_to (suc k) (x * c + p.stock k))
      go (state, stock) = (state ∙ ap (λ (n : ℕ). (position_up_to k n).state) (sym quotient), λ r l. at r l (ℕ_discrete r k))
        where
          at : (r : ℕ) → r < suc k → Dec (r ≡ k) → p.stock r ≡ (position_up_to (suc k) (x * c + p.stock k)).stock r
          at r l (yes e) =
              ap p.stock e ∙ sym remainder ∙ sym (stock_last k (x * c + p.stock k)) ∙ ap (position_up_to (suc k) (x * c + p.stock k)).stock (sym e)
          at r l (no ne) =
              stock r (omega arith) ∙ ap (λ (n : ℕ). (position_up_to k n).stock r) (sym quotient) ∙ sym (stock_other k (x * c + p.stock k) r ne)

  pub position_same : (p : Position) → IsPosition G p → Same p (position_of (number G p))
  position_same p fits = same_upto G.structure.resources p fits.1

  upto_fits : (k n : ℕ) → n < positions_up_to G k → ((position_up_to k n).state < G.structure.states) × ((r : ℕ) → r < k → (position_up_to k n).stock r < places (G.bounds r))
  upto_fits zero n l = (l, λ r h. absurd (omega arith))
  upto_fits (suc k) n l =
      let c = places (G.bounds k) in
      let (state, stock) = upto_fits k (n / c) ((div-lt_iff_lt-mul (places_positive (G.bounds k))).1 l) in
      (state, λ r h. at r h stock (ℕ_discrete r k))
    where
      at : (r : ℕ) → r < suc k → ((j : ℕ) → j < k → (position_up_to k (n / places (G.bounds k))).stock j < places (G.bounds j)) → Dec (r ≡ k) → (position_up_to (suc k) n).stock r < places (G.bounds r)
      at r h stock (yes e) = subst (λ (j : ℕ). (position_up_to (suc k) n).stock j < places (G.bounds j)) (sym e) (rw (stock_last k n) (mod-lt n (places_positive (G.bounds k))))
      at r h stock (no ne) = rw (stock_other k n r ne) (stock r (omega arith))

  pub position_fits : (n : ℕ) → n < positions G → IsPosition G (position_of n)
  position_fits n l = upto_fits G.structure.resources n l

  -- the position with number n has number n
  upto_number : (k n : ℕ) → number_up_to G k (position_up_to k n) ≡ n
  upto_number zero n = refl
  upto_number (suc k) n =
      let c = places (G.bounds k) in
      let rest : number_up_to G k (position_up_to (suc k) n) ≡ n / c =
      same_number_upto k (position_up_to (suc k) n) (position_up_to k (n / c)) (refl, λ r l. stock_other k n r (λ e. omega arith)) ∙ upto_number k (n / c) in
      ap (λ (x : ℕ). x * c + (position_up_to (suc k) n).stock k) rest ∙ ap (λ (x : ℕ). n / c * c + x) (stock_last k n) ∙ div-add-mod' n c

  pub position_number : (n : ℕ) → number G (position_of n) ≡ n
  position_number n = upto_number G.structure.resources n
