-- A move for each position, read as a strategy of document 003: the stock is followed along the history. It is within that stock from
-- every state, and its plays make the position's move at each position. Assumes nothing.
use mathlib.Core.Bool.{Bool, true, false, cond}
use mathlib.Core.List.{List, [], ◌∷◌}
use mathlib.Core.Path.{◌≡◌, refl, sym, ◌∙◌, ap, subst, subst₂}
use Prim.Native.Nat.{ℕ, zero, suc, ◌<◌}
use lib.Dec.{T}
use Rattle.block.specs.Layout.{digit}
use Rattle.game.specs.Rbatl.{Pays, Coalition, Structure, Strategy, Computation, prefix, IsStrategy, KeepsFrom, stock_after}
use Rattle.game.specs.Position.{Arena, Position, places, joint, MoveOf, IsPosition, Affordable, Allowed, outcome, part}
use Rattle.game.specs.Play.{Play, states, Follows, KeepsWithin}
use Rattle.game.proofs.Numbers.Joint.{joint_cong, joint_digit}
use Rattle.game.proofs.Bridge.Proper.{Proper}
use Rattle.game.proofs.Numbers.Stocks.{remaining_fits}
use Rattle.game.proofs.Bridge.Plays.{takes_at, gives_at, at_fits, same_cost, same_charge, same_stock, computation_play}

-- a move's number is that of its own digits
move_number : (S : Structure) (A : Coalition) (q m : ℕ) → MoveOf S A q m → joint S.agents (part A (digit m)) ≡ m
move_number S A q m move = joint_cong S.agents (part A (digit m)) (digit m) (λ a l. go a (A a) (move.1 a l)) ∙ joint_digit S.agents m move.0
  where
    go : (a : ℕ) (t : Bool) → cond t (digit m a < S.actions q a) (digit m a ≡ 0) → cond t (digit m a) 0 ≡ digit m a
    go a true h = refl
    go a false h = sym h

-- the states before the n-th
abbrev before : Computation → ℕ → List ℕ
before λs zero = []
before λs (suc n) = prefix λs n

module _ (G : Arena) (proper : Proper G.structure) (pick : Position → ℕ) (allowed : (p : Position) → IsPosition G p → Allowed G p (pick p)) (stock : ℕ → ℕ) where
  -- the stock after a history that began with this stock
  stock_of : List ℕ → ℕ → ℕ
  stock_of [] = stock
  stock_of (q ∷ h) = let x : Position = record { state = q; stock = stock_of h } in (outcome G x (pick x) 0).stock

  -- the position at the end of a history
  abbrev reading : ℕ → List ℕ → Position
  reading q h = record { state = q; stock = stock_of h }

  pub as_strategy : Strategy
  as_strategy [] = λ a. 0
  as_strategy (q ∷ h) = digit (pick (reading q h))

  module _ (fits : (r : ℕ) → r < G.structure.resources → stock r < places (G.bounds r)) where
    stock_fits : (h : List ℕ) (r : ℕ) → r < G.structure.resources → stock_of h r < places (G.bounds r)
    unfolding stock_of
    stock_fits [] r l = fits r l
    stock_fits (q ∷ h) r l = remaining_fits (G.bounds r) _ _ _ (stock_fits h r l)

    pub is_strategy : IsStrategy G.structure G.coalition as_strategy
    unfolding as_strategy
    is_strategy q h l a la t = go (G.coalition a) t ((allowed (reading q h) (l, stock_fits h)).0.1 a la)
      where
        go : (u : Bool) → T u → cond u (digit (pick (reading q h)) a < G.structure.actions q a) (digit (pick (reading q h)) a ≡ 0) → digit (pick (reading q h)) a < G.structure.actions q a
        go true _ less = less
        go false none _ = absurd none

    module _ (P : Play G) (from : (P.at 0).stock ≡ stock) (follows : Follows G as_strategy P) where
      prefix_is : (λs : Computation) (i : ℕ) → prefix λs i ≡ λs i ∷ before λs i
      prefix_is λs zero = refl
      prefix_is λs (suc i) = refl

      reading_is : (i : ℕ) → (P.at i).stock ≡ stock_of (before (states G P) i) → P.at i ≡ reading (states G P i) (before (states G P) i)
      reading_is i e = ap (λ (s : ℕ → ℕ). record { state = (P.at i).state; stock = s }) e

      move_is : (i : ℕ) → (P.at i).stock ≡ stock_of (before (states G P) i) → P.move i ≡ pick (P.at i)
      unfolding as_strategy
      move_is i e =
          let x = reading (states G P i) (before (states G P) i) in
          let inside : IsPosition G x = subst (IsPosition G) (reading_is i e) (at_fits G proper P i) in
          follows i
          ∙ ap (λ (h : List ℕ). joint G.structure.agents (part G.coalition (as_strategy h))) (prefix_is (states G P) i)
          ∙ move_number G.structure G.coalition (states G P i) (pick x) (allowed x inside).0
          ∙ ap pick (sym (reading_is i e))

      stock_is : (i : ℕ) → (P.at i).stock ≡ stock_of (before (states G P) i)
      unfolding stock_of
      stock_is zero = from
      stock_is (suc i) =
          ap (λ (x : Position). x.stock) (P.step i)
          ∙ ap (λ (m : ℕ). (outcome G (P.at i) m 0).stock) (move_is i (stock_is i))
          ∙ ap (λ (x : Position). (outcome G x (pick x) 0).stock) (reading_is i (stock_is i))
          ∙ ap stock_of (sym (prefix_is (states G P) i))

      -- at each position the strategy makes that position's move
      pub picks : (i : ℕ) → P.move i ≡ pick (P.at i)
      picks i = move_is i (stock_is i)

      pub picks_affordable : (i : ℕ) → Affordable G (P.at i) (P.move i)
      picks_affordable i = rw (picks i) (allowed (P.at i) (at_fits G proper P i)).1

  -- it keeps within the stock of each position that has this stock
  pub keeps : (q : ℕ) → IsPosition G (record { state = q; stock = stock }) → KeepsWithin G (record { state = q; stock = stock }) as_strategy
  keeps q fits = (is_strategy fits.1, within)
    where
      strategy : IsStrategy G.structure G.coalition as_strategy
      strategy = is_strategy fits.1

      -- along a play that follows it
      along : (P : Play G) → (P.at 0).stock ≡ stock → Follows G as_strategy P → (n r : ℕ) → r < G.structure.resources
          → Pays (G.bounds r) (stock_after G.structure G.coalition G.bounds stock as_strategy (states G P) n r)
          (takes_at G proper as_strategy (states G P) n r) (gives_at G proper as_strategy (states G P) n r)
      along P start follows n r l =
          let left = ap (λ (s : ℕ → ℕ). stock_after G.structure G.coalition G.bounds s as_strategy (states G P) n r) (sym start) ∙ same_stock G proper as_strategy strategy P follows n r in
          subst (λ (s : ℕ). Pays (G.bounds r) s (takes_at G proper as_strategy (states G P) n r) (gives_at G proper as_strategy (states G P) n r)) (sym left)
          (subst₂ (λ (c g : ℕ). Pays (G.bounds r) ((P.at n).stock r) c g) (sym (same_cost G proper as_strategy strategy P follows n r)) (sym (same_charge G proper as_strategy strategy P follows n r))
          (picks_affordable fits.1 P start follows n r l))

      within : KeepsFrom G.structure G.coalition G.bounds stock as_strategy
      within λs inside consistent n r l =
          let x : Position = record { state = λs 0; stock = stock } in
          let (P, from, follows, same) = computation_play G proper as_strategy strategy λs consistent x (inside, fits.1) refl in
          subst
          (λ (μs : Computation). Pays (G.bounds r) (stock_after G.structure G.coalition G.bounds stock as_strategy μs n r)
          (takes_at G proper as_strategy μs n r) (gives_at G proper as_strategy μs n r))
          same (along P (ap (λ (y : Position). y.stock) from) follows n r l)
