-- The table of a strategic row: rank, move and reply (document 01, "When a row is true"), and demand 3 about whole plays as one record.
use Rattle.std.specs.Prelude.{cond, ◌⊎◌, ◌≡◌, ℕ, ◌<◌, eqb}
use Rattle.game.specs.Rbatl.{Computation, Strategy}
use Rattle.game.specs.Position.{Arena, Position, IsPosition, number, positions, Reply, Allowed, outcome}
use Rattle.game.specs.Play.{Objective, next, always, until, True, MetWithin, FalseWithin, Settled, Play, CounterStrategy, RecallStrategy, RecallCounter, states, From, Follows, Answers, IsCounterStrategy, FollowsRecall, AnswersRecall, IsRecallStrategy, IsRecallCounter, Afforded, Paid, KeepsWithin, ForcesAll, CoalitionWins, OpponentsWin, EnforcesWithin, ForcesWithin}

-- the rank where nothing is enforced or forced, and the move where the coalition does not win
abbrev pub never : ℕ
never = 65535

abbrev pub no_move : ℕ
no_move = 255

-- a rank and a move for each position number
pub record Table : Type 0 where
  pub rank : ℕ → ℕ
  pub move : ℕ → ℕ

-- the move that a strategy makes by the table: it idles where the table shows none
abbrev pub shown : ℕ → ℕ
shown m = cond (eqb m no_move) 0 m

-- n is the smallest number that has the property
abbrev pub Smallest : (ℕ → Type 0) → ℕ → Type 0
Smallest property n = property n × ((k : ℕ) → k < n → property k → ⊥)

-- n is the smallest number that has the property, or never where no number has it
abbrev pub Fewest : (ℕ → Type 0) → ℕ → Type 0
Fewest property n = ((n < never) × Smallest property n) ⊎ ((n ≡ never) × ((k : ℕ) → property k → ⊥))

-- what the side that wins gets on a play from a position of rank n: the row true or false, for until and always within n moves
abbrev pub WonOn : Objective → ℕ → Computation → Type 0
WonOn (until left right) n λs = MetWithin left right λs n
WonOn (always left) n λs = True (always left) λs
WonOn (next left) n λs = True (next left) λs

abbrev pub LostOn : Objective → ℕ → Computation → Type 0
LostOn (until left right) n λs = True (until left right) λs → ⊥
LostOn (always left) n λs = FalseWithin left λs n
LostOn (next left) n λs = True (next left) λs → ⊥

-- an until row is not met in fewer than n moves
abbrev pub Unmet : (ℕ → Type 0) → (ℕ → Type 0) → Computation → ℕ → Type 0
Unmet left right λs n = (k : ℕ) → k < n → MetWithin left right λs k → ⊥

module _ (G : Arena) where
  -- until: the fewest moves within which the coalition can enforce the row. Always: the fewest within which the opponents,
  -- knowing the coalition's present move each time, can make left false. Next: 1 if the coalition can
  abbrev pub RankIs : Objective → Position → ℕ → Type 0
  RankIs (until left right) p n = Fewest (EnforcesWithin G left right p) n
  RankIs (always left) p n = Fewest (ForcesWithin G left p) n
  RankIs (next left) p n = ((n ≡ 1) × CoalitionWins G (next left) p) ⊎ ((n ≡ never) × (CoalitionWins G (next left) p → ⊥))

  -- nobody gets there in fewer than n moves. Until: every strategy within the stock allows a play that is not met sooner, and some counter-strategy
  -- keeps every play whose moves are affordable, whoever chose them, from being met sooner. Always: some strategy within the stock keeps left
  -- true that long, whatever the replies
  abbrev pub NoSooner : Objective → Position → ℕ → Type 0
  NoSooner (until left right) p n =
      ((F : Strategy) → KeepsWithin G p F → (P : Play G) × From G p P × Follows G F P × Unmet left right (states G P) n)
      × ForcesAll G p (λ λs. Unmet left right λs n)
  NoSooner (always left) p n =
      (F : Strategy) × KeepsWithin G p F × ((P : Play G) → From G p P → Follows G F P → (k : ℕ) → k < n → left (states G P k))
  NoSooner (next left) p n = Unit {0}

  module _ (X : Table) where
    abbrev pub rank_at : Position → ℕ
    rank_at p = X.rank (number G p)

    abbrev pub move_at : Position → ℕ
    move_at p = X.move (number G p)

    -- an outcome at which a move is aimed, from the position p
    abbrev pub Aim : Objective → Position → Position → Type 0
    Aim (until left right) p x = rank_at x < rank_at p
    Aim (always left) p x = rank_at x ≡ never
    Aim (next left) p x = left x.state

    -- an affordable move whose every outcome is aimed at
    abbrev pub Good : Objective → Position → ℕ → Type 0
    Good t p m = Allowed G p m × ((r : ℕ) → Reply G p r → Aim t p (outcome G p m r))

    -- until at rank 0, where the move is 0
    abbrev pub Met : Objective → Position → Type 0
    Met (until left right) p = rank_at p ≡ 0
    Met (always left) p = ⊥
    Met (next left) p = ⊥

    -- always at rank 0, and until with left and right both false: there the reply is 0
    abbrev pub Failed : Objective → Position → Type 0
    Failed (until left right) p = (left p.state → ⊥) × (right p.state → ⊥)
    Failed (always left) p = rank_at p ≡ 0
    Failed (next left) p = ⊥

    -- m is the table's move at p; Won says where the coalition wins
    pub record MoveIs (t : Objective) (Won : Position → Type 0) (p : Position) (m : ℕ) : Type 0 where
      pub lost : (Won p → ⊥) → m ≡ no_move
      pub met : Won p → Met t p → m ≡ 0
      pub best : Won p → (Met t p → ⊥) → Smallest (Good t p) m

    -- an outcome at which a reply is aimed, from the position p
    abbrev pub CounterAim : Objective → (Position → Type 0) → Position → Position → Type 0
    CounterAim (until left right) Won p x = Won x → ⊥
    CounterAim (always left) Won p x = rank_at x < rank_at p
    CounterAim (next left) Won p x = left x.state → ⊥

    -- r is the reply to the move m at p; where the coalition wins, 0 stands for it
    pub record ReplyIs (t : Objective) (Won : Position → Type 0) (p : Position) (m r : ℕ) : Type 0 where
      pub won : Won p → r ≡ 0
      pub failed : Failed t p → r ≡ 0
      pub best : (Won p → ⊥) → (Failed t p → ⊥) → Smallest (λ k. Reply G p k × CounterAim t Won p (outcome G p m k)) r

    abbrev pub ReplyRule : Objective → (Position → Type 0) → CounterStrategy → Type 0
    ReplyRule t Won ρ = (p : Position) (m : ℕ) → IsPosition G p → Allowed G p m → ReplyIs t Won p m (ρ p m)

    -- the table read as a strategy
    abbrev pub ByTable : Play G → Type 0
    ByTable P = (i : ℕ) → P.move i ≡ shown (move_at (P.at i))

    -- a finite rank of until or always is below the number of positions
    abbrev pub RankBelow : Objective → Position → Type 0
    RankBelow (until left right) p = rank_at p < never → rank_at p < positions G
    RankBelow (always left) p = rank_at p < never → rank_at p < positions G
    RankBelow (next left) p = Unit {0}

    -- demand 3 at the position p, about whole plays from p without end
    pub record Decided (t : Objective) (p : Position) : Type 0 where
      -- exactly one side wins
      pub one_side : CoalitionWins G t p ⊎ OpponentsWin G t p
      pub not_both : CoalitionWins G t p → OpponentsWin G t p → ⊥
      -- the table says what plays say
      pub rank_is : RankIs t p (rank_at p)
      pub rank_below : RankBelow t p
      pub no_sooner : NoSooner t p (rank_at p)
      pub move_is : MoveIs t (CoalitionWins G t) p (move_at p)
      -- some rule gives the table's replies, and some strategy keeps within the stock
      pub some_replies : (ρ : CounterStrategy) × IsCounterStrategy G ρ × ReplyRule t (CoalitionWins G t) ρ
      pub some_strategy : (F : Strategy) × KeepsWithin G p F
      -- the table can be played whatever the replies, chosen from the whole play so far; and against the table's replies there is a play of
      -- every strategy within the stock, and of affordable moves however they are chosen
      pub table_plays : (ρ : RecallCounter) → IsRecallCounter G ρ → (P : Play G) × From G p P × ByTable P × AnswersRecall G ρ P
      pub reply_plays :
          (ρ : CounterStrategy) → ReplyRule t (CoalitionWins G t) ρ → (F : Strategy) → KeepsWithin G p F
          → (P : Play G) × From G p P × Follows G F P × Answers G ρ P
      pub recall_plays :
          (ρ : CounterStrategy) → ReplyRule t (CoalitionWins G t) ρ → (μ : RecallStrategy) → IsRecallStrategy G μ
          → (P : Play G) × From G p P × FollowsRecall G μ P × Answers G ρ P
      -- where the coalition wins: every play by the table, whatever the replies, is paid and won; it idles only after the row is settled
      pub by_table : CoalitionWins G t p → (P : Play G) → From G p P → ByTable P → Paid G P × WonOn t (rank_at p) (states G P)
      pub idles_settled :
          CoalitionWins G t p → (P : Play G) → From G p P → ByTable P
          → (n : ℕ) → move_at (P.at n) ≡ no_move → Settled t (states G P) n
      -- elsewhere: every play against the replies whose moves are affordable, whoever chose them and from whatever memory, is lost; a position
      -- that the coalition wins comes only after the row is settled. So every strategy within the stock loses its play
      pub by_replies :
          OpponentsWin G t p → (ρ : CounterStrategy) → ReplyRule t (CoalitionWins G t) ρ
          → (P : Play G) → From G p P → Afforded G P → Answers G ρ P
          → LostOn t (rank_at p) (states G P) × ((n : ℕ) → CoalitionWins G t (P.at n) → Settled t (states G P) n)
      pub strategies_lose :
          OpponentsWin G t p → (ρ : CounterStrategy) → ReplyRule t (CoalitionWins G t) ρ
          → (F : Strategy) → KeepsWithin G p F → (P : Play G) → From G p P → Follows G F P → Answers G ρ P
          → LostOn t (rank_at p) (states G P) × ((n : ℕ) → CoalitionWins G t (P.at n) → Settled t (states G P) n)
