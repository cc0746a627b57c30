-- Local facts of a table: each speaks of one position and its outcomes. The claims about whole plays follow from them (proofs/Whole/Decided.antt).
-- A solver keeps Sound and comes to rest at Stable, which together are RankFacts; WinningFacts is the half that a table from elsewhere can be checked for.
use Rattle.std.specs.Prelude.{◌⊎◌, ◌≡◌, ℕ, suc, ◌≤◌, ◌<◌}
use Rattle.game.specs.Position.{Arena, Position, IsPosition, Reply, Allowed, outcome}
use Rattle.game.specs.Play.{Objective, next, always, until}
use Rattle.game.specs.Table.{Table, never, no_move, rank_at, move_at, Good, MoveIs}

module _ (G : Arena) where
  -- some affordable move has the property at every outcome
  abbrev pub CanForce : Position → (Position → Type 0) → Type 0
  CanForce p property = (m : ℕ) × Allowed G p m × ((r : ℕ) → Reply G p r → property (outcome G p m r))

  -- every affordable move has a reply with the property at its outcome
  abbrev pub CanAnswer : Position → (Position → Type 0) → Type 0
  CanAnswer p property = (m : ℕ) → Allowed G p m → (r : ℕ) × Reply G p r × property (outcome G p m r)

  -- one side attacks, to come to Goal with Safe before, and the other defends; rank counts the attack's moves
  module _ (Safe Goal : ℕ → Type 0) (rank : Position → ℕ) where
    -- a finite rank is sound: the attack comes nearer
    pub record Sound (Attack : Position → (Position → Type 0) → Type 0) : Type 0 where
      pub bounded : (p : Position) → IsPosition G p → rank p ≤ never
      pub reached : (p : Position) → IsPosition G p → rank p ≡ 0 → Goal p.state
      pub goal : (p : Position) → IsPosition G p → Goal p.state → rank p ≡ 0
      pub safe : (p : Position) → IsPosition G p → 0 < rank p → rank p < never → Safe p.state
      pub attack : (p : Position) → IsPosition G p → 0 < rank p → rank p < never → Attack p (λ x. rank x < rank p)

    -- nothing does better: the defence keeps the rank up
    abbrev pub Stable : (Position → (Position → Type 0) → Type 0) → Type 0
    Stable Defend =
        (p : Position) → IsPosition G p → Safe p.state → 0 < rank p
        → Defend p (λ x. (rank p ≤ suc (rank x)) × (rank p ≡ never → rank x ≡ never))

    pub record Ranked (Attack Defend : Position → (Position → Type 0) → Type 0) : Type 0 where
      pub sound : Sound Attack
      pub stable : Stable Defend

  abbrev pub RankFacts : Objective → (Position → ℕ) → Type 0
  RankFacts (until left right) rank = Ranked left right rank CanForce CanAnswer
  RankFacts (always left) rank = Ranked (λ q. Unit {0}) (λ q. left q → ⊥) rank CanAnswer CanForce
  RankFacts (next left) rank =
      (p : Position) → IsPosition G p
      → ((rank p ≡ 1) × CanForce p (λ x. left x.state)) ⊎ ((rank p ≡ never) × CanAnswer p (λ x. left x.state → ⊥))

  -- lower rows are decided in every state
  abbrev pub RowsDecided : Objective → Type 0
  RowsDecided (until left right) = ((q : ℕ) → q < G.structure.states → Dec (left q)) × ((q : ℕ) → q < G.structure.states → Dec (right q))
  RowsDecided (always left) = (q : ℕ) → q < G.structure.states → Dec (left q)
  RowsDecided (next left) = (q : ℕ) → q < G.structure.states → Dec (left q)

  module _ (X : Table) where
    -- the table's rank says that the coalition wins
    abbrev pub Claims : Objective → Position → Type 0
    Claims (until left right) p = rank_at G X p < never
    Claims (always left) p = rank_at G X p ≡ never
    Claims (next left) p = rank_at G X p ≡ 1

    -- what stands at a claimed position
    abbrev pub Backed : Objective → Position → Type 0
    Backed (until left right) p =
        (rank_at G X p ≡ 0 → right p.state × (move_at G X p ≡ 0))
        × (0 < rank_at G X p → left p.state × Good G X (until left right) p (move_at G X p))
    Backed (always left) p = left p.state × Good G X (always left) p (move_at G X p)
    Backed (next left) p = Good G X (next left) p (move_at G X p)

    pub record WinningFacts (t : Objective) : Type 0 where
      pub claimed : (p : Position) → IsPosition G p → Claims t p → Backed t p
      pub unclaimed : (p : Position) → IsPosition G p → (Claims t p → ⊥) → move_at G X p ≡ no_move

    -- all that Decided asks of a table
    pub record Facts (t : Objective) : Type 0 where
      pub ranks : RankFacts t (rank_at G X)
      pub moves : (p : Position) → IsPosition G p → MoveIs G X t (Claims t) p (move_at G X p)
      pub decided : RowsDecided t
