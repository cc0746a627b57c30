-- Demand 3 of a strategic row: one statement about whole plays without end, from every position, that the table, move and reply calls cite.
-- What is played by are the row's moves and replies: those that the calls give.
use Rattle.std.specs.Prelude.{◌⊎◌, ◌≡◌, ℕ, ◌<◌}
use Rattle.block.specs.Layout as L
use Rattle.block.specs.Layout.{Block}
use Rattle.block.specs.Check.{Passes}
use Rattle.game.specs.Rbatl.{Strategy}
use Rattle.game.specs.Position.{Arena, Position, IsPosition, Allowed}
use Rattle.game.specs.Play.{Objective, True, Settled, Play, CounterStrategy, RecallStrategy, RecallCounter, states, From, Follows, Answers, IsCounterStrategy, FollowsRecall, AnswersRecall, IsRecallStrategy, IsRecallCounter, Afforded, Paid, KeepsWithin, CoalitionWins, OpponentsWin}
use Rattle.game.specs.Table.{Table, move_at, RankIs, NoSooner, ReplyIs, WonOn, LostOn, Decided}
use Rattle.game.specs.Model.{arena_of, objective_of}

module _ (G : Arena) (t : Objective) where
  -- a table that is decided at every position, of which there is one only (proofs/Whole/Unique)
  abbrev pub IsTable : Table → Type 0
  IsTable X = (y : Position) → IsPosition G y → Decided G X t y

  -- m is the coalition's move at p: the table's, where the coalition wins
  pub record CoalitionMove (p : Position) (m : ℕ) : Type 0 where
    pub table : Table
    pub is_table : IsTable table
    pub wins : CoalitionWins G t p
    pub move : m ≡ move_at G table p
    pub small : m < L.max_joint

  -- r is the opponents' reply at p to the move m, where they win
  pub record OpponentsReply (p : Position) (m r : ℕ) : Type 0 where
    pub table : Table
    pub is_table : IsTable table
    pub loses : OpponentsWin G t p
    pub reply : ReplyIs G table t (CoalitionWins G t) p m r
    pub small : r < L.max_joint

  -- the coalition makes its move wherever it wins, and idles elsewhere
  abbrev pub ByMoves : Play G → Type 0
  ByMoves P =
      (n : ℕ)
      → (CoalitionWins G t (P.at n) → CoalitionMove (P.at n) (P.move n))
      × ((CoalitionWins G t (P.at n) → ⊥) → P.move n ≡ 0)

  -- its opponents give their reply wherever they win; elsewhere 0 stands for it
  abbrev pub ByReplies : CounterStrategy → Type 0
  ByReplies ρ =
      (y : Position) (m : ℕ) → IsPosition G y → Allowed G y m
      → (OpponentsWin G t y → OpponentsReply y m (ρ y m))
      × (CoalitionWins G t y → ρ y m ≡ 0)

  -- what the moves bring the coalition from a position of rank n: it can play by them whatever replies are chosen, from the whole play so
  -- far; every such play never overspends and makes the row true, until within n moves; and it idles only after the row is settled
  pub record MovesWin (p : Position) (n : ℕ) : Type 0 where
    pub some_replies : (ρ : RecallCounter) × IsRecallCounter G ρ
    pub plays : (ρ : RecallCounter) → IsRecallCounter G ρ → (P : Play G) × From G p P × ByMoves P × AnswersRecall G ρ P
    pub won : (P : Play G) → From G p P → ByMoves P → Paid G P × True t (states G P) × WonOn t n (states G P)
    pub settled : (P : Play G) → From G p P → ByMoves P → (k : ℕ) → (CoalitionWins G t (P.at k) → ⊥) → Settled t (states G P) k

  -- what the replies bring the opponents from a position of rank n: every strategy within the stock, and affordable moves however they are
  -- chosen, can be played against them; every play against them whose moves are affordable, whoever chose them and from whatever memory,
  -- makes the row false, always within n moves; and a position that the coalition wins comes only after the row is settled
  pub record RepliesWin (p : Position) (n : ℕ) : Type 0 where
    pub some_replies : (ρ : CounterStrategy) × IsCounterStrategy G ρ × ByReplies ρ
    pub some_strategy : (F : Strategy) × KeepsWithin G p F
    pub plays :
        (ρ : CounterStrategy) → ByReplies ρ → (F : Strategy) → KeepsWithin G p F
        → (P : Play G) × From G p P × Follows G F P × Answers G ρ P
    pub recall_plays :
        (ρ : CounterStrategy) → ByReplies ρ → (μ : RecallStrategy) → IsRecallStrategy G μ
        → (P : Play G) × From G p P × FollowsRecall G μ P × Answers G ρ P
    pub lost :
        (ρ : CounterStrategy) → ByReplies ρ → (P : Play G) → From G p P → Afforded G P → Answers G ρ P
        → (True t (states G P) → ⊥) × LostOn t n (states G P)
    pub settled :
        (ρ : CounterStrategy) → ByReplies ρ → (P : Play G) → From G p P → Afforded G P → Answers G ρ P
        → (k : ℕ) → CoalitionWins G t (P.at k) → Settled t (states G P) k

  -- at p exactly one side wins, and its moves or replies bring what they bring; the rank is the fewest moves, and nobody gets there sooner
  pub record Demanded (p : Position) : Type 0 where
    pub rank : ℕ
    pub rank_is : RankIs G t p rank
    pub rank_only : (n : ℕ) → RankIs G t p n → n ≡ rank
    pub no_sooner : NoSooner G t p rank
    pub sides :
        (CoalitionWins G t p × (OpponentsWin G t p → ⊥) × MovesWin p rank)
        ⊎ (OpponentsWin G t p × (CoalitionWins G t p → ⊥) × RepliesWin p rank)

-- the same of row i of a block: its table, its coalition's move and their reply
abbrev pub TableOf : Block → ℕ → Table → Type 0
TableOf b i = IsTable (arena_of b i) (objective_of b i)

abbrev pub RowMove : Block → ℕ → Position → ℕ → Type 0
RowMove b i = CoalitionMove (arena_of b i) (objective_of b i)

abbrev pub RowReply : Block → ℕ → Position → ℕ → ℕ → Type 0
RowReply b i = OpponentsReply (arena_of b i) (objective_of b i)

-- demand 3 of row i of a block that passes
abbrev pub Demand3 : Block → ℕ → Type 0
Demand3 b i =
    Passes b → i < L.rows b → L.Strategic (L.kind b i)
    → (p : Position) → IsPosition (arena_of b i) p → Demanded (arena_of b i) (objective_of b i) p
