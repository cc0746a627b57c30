-- Plays from a position, and who wins there (document 01, "When a row is true", from "In a play from a position" on).
-- Document 01's team is the coalition, the others its opponents, a plan a strategy of document 003.
use Rattle.std.specs.Prelude.{List, [], ◌∷◌, ◌⊎◌, ◌≡◌, ℕ, zero, suc, ◌+◌, ◌≤◌, ◌<◌}
use Rattle.game.specs.Rbatl.{Pays, Computation, Strategy, prefix, IsStrategy, KeepsFrom, NextOn, AlwaysOn, UntilOn}
use Rattle.game.specs.Position.{Arena, Position, IsPosition, joint, part, Move, Reply, cost, charge, Affordable, Allowed, outcome}

-- what a strategic row asks of a play; left and right say in which states the lower rows are true
pub data Objective : Type 1 where
  next always : (ℕ → Type 0) → Objective
  until : (ℕ → Type 0) → (ℕ → Type 0) → Objective

-- the row is true on a play with these states
abbrev pub True : Objective → Computation → Type 0
True (next left) = NextOn left
True (always left) = AlwaysOn left
True (until left right) = UntilOn left right

-- an until row is met within n moves
abbrev pub MetWithin : (ℕ → Type 0) → (ℕ → Type 0) → Computation → ℕ → Type 0
MetWithin left right λs n = (k : ℕ) × (k ≤ n) × right (λs k) × ((j : ℕ) → j < k → left (λs j))

-- left is false within n moves
abbrev pub FalseWithin : (ℕ → Type 0) → Computation → ℕ → Type 0
FalseWithin left λs n = (k : ℕ) × (k ≤ n) × (left (λs k) → ⊥)

-- the states up to the n-th decide the row
abbrev pub Settled : Objective → Computation → ℕ → Type 0
Settled t λs n =
    let Same : Computation → Type 0 = λ μs. (i : ℕ) → i ≤ n → μs i ≡ λs i in
    ((μs : Computation) → Same μs → True t μs) ⊎ ((μs : Computation) → Same μs → True t μs → ⊥)

-- a play without end: each move starts from the state and stock that the last one left. That a move is affordable is no part of it
pub record Play (G : Arena) : Type 0 where
  pub at : ℕ → Position
  pub move : ℕ → ℕ
  pub reply : ℕ → ℕ
  pub start : IsPosition G (at 0)
  pub moved : (i : ℕ) → Move G (at i) (move i)
  pub replied : (i : ℕ) → Reply G (at i) (reply i)
  pub step : (i : ℕ) → at (suc i) ≡ outcome G (at i) (move i) (reply i)

-- picks a reply from the position and the coalition's present move alone
abbrev pub CounterStrategy : Type 0
CounterStrategy = Position → ℕ → ℕ

-- a turn of a play: the position, the coalition's move and the reply to it
pub record Turn : Type 0 where
  pub at : Position
  pub move : ℕ
  pub reply : ℕ

-- with perfect recall: picks a move, or a reply to the present move, from the whole play so far, its latest turn first, and the position
abbrev pub RecallStrategy : Type 0
RecallStrategy = List Turn → Position → ℕ

abbrev pub RecallCounter : Type 0
RecallCounter = List Turn → Position → ℕ → ℕ

module _ (G : Arena) where
  abbrev pub states : Play G → Computation
  states P i = (P.at i).state

  -- what the coalition's first n moves take, and what they give
  abbrev pub spent_on : Play G → ℕ → ℕ → ℕ
  spent_on P zero r = 0
  spent_on P (suc n) r = spent_on P n r + cost G (P.at n) (P.move n) r

  abbrev pub charged_on : Play G → ℕ → ℕ → ℕ
  charged_on P zero r = 0
  charged_on P (suc n) r = charged_on P n r + charge G (P.at n) (P.move n) r

  abbrev pub From : Position → Play G → Type 0
  From p P = P.at 0 ≡ p

  -- the play is one that the strategy allows
  abbrev pub Follows : Strategy → Play G → Type 0
  Follows F P = (i : ℕ) → P.move i ≡ joint G.structure.agents (part G.coalition (F (prefix (states P) i)))

  abbrev pub Answers : CounterStrategy → Play G → Type 0
  Answers ρ P = (i : ℕ) → P.reply i ≡ ρ (P.at i) (P.move i)

  abbrev pub IsCounterStrategy : CounterStrategy → Type 0
  IsCounterStrategy ρ = (p : Position) (m : ℕ) → IsPosition G p → Move G p m → Reply G p (ρ p m)

  -- the turns of a play before the n-th, the latest first
  abbrev pub past : Play G → ℕ → List Turn
  past P zero = []
  past P (suc n) = record { at = P.at n; move = P.move n; reply = P.reply n } ∷ past P n

  abbrev pub FollowsRecall : RecallStrategy → Play G → Type 0
  FollowsRecall μ P = (i : ℕ) → P.move i ≡ μ (past P i) (P.at i)

  abbrev pub AnswersRecall : RecallCounter → Play G → Type 0
  AnswersRecall ρ P = (i : ℕ) → P.reply i ≡ ρ (past P i) (P.at i) (P.move i)

  -- its moves are affordable, whatever happened before
  abbrev pub IsRecallStrategy : RecallStrategy → Type 0
  IsRecallStrategy μ = (h : List Turn) (p : Position) → IsPosition G p → Allowed G p (μ h p)

  abbrev pub IsRecallCounter : RecallCounter → Type 0
  IsRecallCounter ρ = (h : List Turn) (p : Position) (m : ℕ) → IsPosition G p → Move G p m → Reply G p (ρ h p m)

  -- every move can be paid when its turn comes, whoever chose it
  abbrev pub Afforded : Play G → Type 0
  Afforded P = (i : ℕ) → Affordable G (P.at i) (P.move i)

  -- and each beginning of the play takes at most the first position's stock and what it gives
  abbrev pub Paid : Play G → Type 0
  Paid P = Afforded P × ((n r : ℕ) → r < G.structure.resources → Pays (G.bounds r) ((P.at 0).stock r) (spent_on P n r) (charged_on P n r))

  -- the strategy keeps within the position's stock, under the row's bound
  abbrev pub KeepsWithin : Position → Strategy → Type 0
  KeepsWithin p F = IsStrategy G.structure G.coalition F × KeepsFrom G.structure G.coalition G.bounds p.stock F

  -- some strategy within the position's stock makes the property true on every play that it allows from there
  abbrev pub Enforces : Position → (Computation → Type 0) → Type 0
  Enforces p property = (F : Strategy) × KeepsWithin p F × ((P : Play G) → From p P → Follows F P → property (states P))

  -- some counter-strategy makes the property true on its play against every strategy within the position's stock
  abbrev pub Forces : Position → (Computation → Type 0) → Type 0
  Forces p property =
      (ρ : CounterStrategy)
      × IsCounterStrategy ρ
      × ((F : Strategy) → KeepsWithin p F → (P : Play G) → From p P → Follows F P → Answers ρ P → property (states P))

  -- the same on every play against it whose moves are affordable, whoever chose them and from whatever memory
  abbrev pub ForcesAll : Position → (Computation → Type 0) → Type 0
  ForcesAll p property =
      (ρ : CounterStrategy) × IsCounterStrategy ρ × ((P : Play G) → From p P → Afforded P → Answers ρ P → property (states P))

  abbrev pub CoalitionWins : Objective → Position → Type 0
  CoalitionWins t p = Enforces p (True t)

  abbrev pub OpponentsWin : Objective → Position → Type 0
  OpponentsWin t p = Forces p (λ λs. True t λs → ⊥)

  abbrev pub EnforcesWithin : (ℕ → Type 0) → (ℕ → Type 0) → Position → ℕ → Type 0
  EnforcesWithin left right p n = Enforces p (λ λs. MetWithin left right λs n)

  abbrev pub ForcesWithin : (ℕ → Type 0) → Position → ℕ → Type 0
  ForcesWithin left p n = Forces p (λ λs. FalseWithin left λs n)
