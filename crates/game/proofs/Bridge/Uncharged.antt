-- Where no action gives anything, to keep within a bound is document 003's definition 4, and truth is document 003's own.
--     uncharged_within     a strategy whose moves are affordable all along is one whose beginnings cost at most the bound
--     uncharged_serves     a position's stock serves as well for the bound
--     uncharged_sat        a formula is true by the one exactly where it is by the other
-- Assumes nothing.
use mathlib.Core.Logic.{◌↔◌, inl, inr}
use mathlib.Core.Path.{◌≡◌, refl, sym, ◌∙◌, subst}
use Prim.Native.Nat.{ℕ, zero, suc, ◌+◌, ◌-◌, ◌<◌, min}
use native.Mathlib.Omega.{arith}
use Rattle.game.specs.Rbatl.{Bound, limit, unlimited, Bounds, Fits, full_stock, Pays, remaining, Coalition, Computation, Formula, prop, not, or, next, always, until, Strategy, Structure, Uncharged, prefix, IsStrategy, Consistent, move_cost, move_charge, stock_after, KeepsFrom, Within, spent, SpendsWithin, CanBy, Sat, SpendingSat}
use Rattle.game.specs.Position.{Arena, Position, places, IsPosition}
use Rattle.game.proofs.Bridge.Proper.{Proper}
use Rattle.game.proofs.Bridge.Moves.{sum_nothing}
use Rattle.game.proofs.Bridge.Plays.{moves, stays_inside}
use Rattle.game.proofs.Bridge.Truth.{ServesFor, full_places}

-- a stock as a bound, where there is one
abbrev pub stock_bound : Bound → ℕ → Bound
stock_bound (limit k) s = limit s
stock_bound unlimited s = unlimited

full_bound : (b : Bound) → stock_bound b (full_stock b) ≡ b
full_bound (limit k) = refl
full_bound unlimited = refl

-- one resource of which only is taken, from a stock on
record Spending (bound : Bound) (start : ℕ) (stock cost charge spent : ℕ → ℕ) : Type 0 where
  fits : start < places bound
  first : stock 0 ≡ start
  left : (i : ℕ) → stock (suc i) ≡ remaining bound (stock i) (cost i) (charge i)
  gives : (i : ℕ) → charge i ≡ 0
  none : spent 0 ≡ 0
  adds : (i : ℕ) → spent (suc i) ≡ spent i + cost i

module _ (start : ℕ) (stock cost charge spent : ℕ → ℕ) where
  is_left : (k : ℕ) → Spending (limit k) start stock cost charge spent → (n : ℕ) → stock n ≡ start - spent n
  is_left k L zero = omega (arith, L.first, L.none)
  is_left k L (suc n) = L.left n ∙ rw (is_left k L n, L.gives n, L.adds n) (fewer (spent n) (cost n) L.fits)
    where
      fewer : (x c : ℕ) → start < suc k → min k (start - x + 0 - c) ≡ start - (x + c)
      fewer x c small = omega arith

  pays_fits : (bound : Bound) → Spending bound start stock cost charge spent → ((i : ℕ) → Pays bound (stock i) (cost i) (charge i)) → (n : ℕ) → Fits (spent n) (stock_bound bound start)
  pays_fits unlimited L paid n = tt
  pays_fits (limit k) L paid zero = omega (arith, L.none)
  pays_fits (limit k) L paid (suc n) = omega (arith, pays_fits (limit k) L paid n, is_left k L n, paid n, L.gives n, L.adds n)

  fits_pays : (bound : Bound) → Spending bound start stock cost charge spent → ((n : ℕ) → Fits (spent n) (stock_bound bound start)) → (i : ℕ) → Pays bound (stock i) (cost i) (charge i)
  fits_pays unlimited L fits i = tt
  fits_pays (limit k) L fits i = omega (arith, is_left k L i, fits (suc i), L.adds i)

module _ {S : Structure} (proper : Proper S) (none : Uncharged S) where
  module _ (A : Coalition) (F : Strategy) (strategy : IsStrategy S A F) where
    module _ (b : Bounds) (start : ℕ → ℕ) (fits : (r : ℕ) → r < S.resources → start r < places (b r)) where
      spending : (λs : Computation) → λs 0 < S.states → Consistent S A F λs → (r : ℕ) → r < S.resources
          → Spending (b r) (start r) (λ n. stock_after S A b start F λs n r) (λ n. move_cost S A (λs n) (F (prefix λs n)) r) (λ n. move_charge S A (λs n) (F (prefix λs n)) r) (λ n. spent S A F λs n r)
      spending λs starts consistent r lr = record {
        fits = fits r lr;
        first = refl;
        left = λ i. refl;
        gives = λ i.
            let inside = stays_inside S proper A F λs starts consistent i in
            sum_nothing S proper A (λ a. S.charge (λs i) a (F (prefix λs i) a) r) S.agents (λ a la t. none (λs i) a (F (prefix λs i) a) r inside la (moves S A F strategy λs i inside a la t) lr);
        none = refl;
        adds = λ i. refl;
      }

      -- the bound over a stock does not matter, and the stock is as a bound
      keeps_spends : (b' : Bounds) → ((r : ℕ) → r < S.resources → b' r ≡ stock_bound (b r) (start r)) → KeepsFrom S A b start F ↔ SpendsWithin S A b' F
      keeps_spends b' same = (
        (λ keeps λs starts consistent n r lr. subst (Fits (spent S A F λs n r)) (sym (same r lr)) (pays_fits _ _ _ _ _ (b r) (spending λs starts consistent r lr) (λ i. keeps λs starts consistent i r lr) n)),
        λ spends λs starts consistent n r lr. fits_pays _ _ _ _ _ (b r) (spending λs starts consistent r lr) (λ i. subst (Fits (spent S A F λs i r)) (same r lr) (spends λs starts consistent i r lr)) n,
      )

    pub uncharged_within : (b : Bounds) → Within S A b F ↔ SpendsWithin S A b F
    uncharged_within b = keeps_spends b (λ r. full_stock (b r)) (λ r _. full_places (b r)) b (λ r _. sym (full_bound (b r)))

  -- what a strategy can by the one it can by the other, where the property is the same of computations among the states
  can_by : (A : Coalition) (b : Bounds) (Keeps Keeps' : Bounds → Strategy → Type 0) → ((F : Strategy) → IsStrategy S A F → Keeps b F → Keeps' b F) → (property property' : Computation → Type 0) (q : ℕ) → q < S.states
      → ((λs : Computation) → ((i : ℕ) → λs i < S.states) → property λs → property' λs) → CanBy S A Keeps b property q → CanBy S A Keeps' b property' q
  can_by A b Keeps Keeps' other property property' q l tells (F, strategy, keeps, met) = (
    F,
    strategy,
    other F strategy keeps,
    λ λs starts consistent. tells λs (stays_inside S proper A F λs (subst (λ (x : ℕ). x < S.states) (sym starts) l) consistent) (met λs starts consistent),
  )

  pub uncharged_sat : (φ : Formula) (q : ℕ) → q < S.states → Sat S φ q ↔ SpendingSat S φ q
  uncharged_sat (prop p) q l = ((λ h. h), λ h. h)
  uncharged_sat (not φ) q l = let (to, from) = uncharged_sat φ q l in ((λ fails sat. fails (from sat)), λ fails sat. fails (to sat))
  uncharged_sat (or φ ψ) q l =
      let (to, from) = uncharged_sat φ q l in
      let (to', from') = uncharged_sat ψ q l in
      (elim [ inl h ↦ inl (to h) | inr h ↦ inr (to' h) ], elim [ inl h ↦ inl (from h) | inr h ↦ inr (from' h) ])
  uncharged_sat (next A b φ) q l = (
    can_by A b (Within S A) (SpendsWithin S A) (λ F strategy. (uncharged_within A F strategy b).0) _ _ q l (λ λs inside. (uncharged_sat φ (λs 1) (inside 1)).0),
    can_by A b (SpendsWithin S A) (Within S A) (λ F strategy. (uncharged_within A F strategy b).1) _ _ q l (λ λs inside. (uncharged_sat φ (λs 1) (inside 1)).1),
  )
  uncharged_sat (always A b φ) q l = (
    can_by A b (Within S A) (SpendsWithin S A) (λ F strategy. (uncharged_within A F strategy b).0) _ _ q l (λ λs inside holds i. (uncharged_sat φ (λs i) (inside i)).0 (holds i)),
    can_by A b (SpendsWithin S A) (Within S A) (λ F strategy. (uncharged_within A F strategy b).1) _ _ q l (λ λs inside holds i. (uncharged_sat φ (λs i) (inside i)).1 (holds i)),
  )
  uncharged_sat (until A b φ ψ) q l = (
    can_by A b (Within S A) (SpendsWithin S A) (λ F strategy. (uncharged_within A F strategy b).0) _ _ q l
        (λ λs inside (i, met, before). (i, (uncharged_sat ψ (λs i) (inside i)).0 met, λ j lj. (uncharged_sat φ (λs j) (inside j)).0 (before j lj))),
    can_by A b (SpendsWithin S A) (Within S A) (λ F strategy. (uncharged_within A F strategy b).1) _ _ q l
        (λ λs inside (i, met, before). (i, (uncharged_sat ψ (λs i) (inside i)).1 met, λ j lj. (uncharged_sat φ (λs j) (inside j)).1 (before j lj))),
  )

-- a position's stock serves for the bound
pub uncharged_serves : (G : Arena) → Proper G.structure → Uncharged G.structure → (p : Position) → IsPosition G p → (b : Bounds) → ((r : ℕ) → r < G.structure.resources → b r ≡ stock_bound (G.bounds r) (p.stock r))
    → ServesFor G p b
uncharged_serves G proper none p fits b same F strategy =
    let (to, from) = uncharged_within proper none G.coalition F strategy b in
    let (to', from') = keeps_spends proper none G.coalition F strategy G.bounds p.stock fits.1 b same in
    ((λ within. from' (to within)), λ keeps. from (to' keeps))
