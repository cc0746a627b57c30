-- The job Catch (document 01, "The job Catch"), line by line, and its starred cases.
use Rattle.std.specs.Prelude.{List, [], ◌∷◌, ◌≡◌, ℕ, suc, ◌+◌, ◌*◌, length, replicate}
use Rattle.std.proofs.Math.ListN as N
use Rattle.block.specs.Layout as L
use Rattle.block.specs.Layout.{Block, block_bytes, place_of}
use Rattle.block.specs.declared.layout.Place.{Place}
use Rattle.block.specs.declared.layout.Place.TheVariants.{Header, Mask, Count, Cost, Next, Field}
use Rattle.game.specs.Position.{Position, position}
use Rattle.game.specs.Play.{CoalitionWins, OpponentsWin}
use Rattle.game.specs.Table.{Table, RankIs, ReplyIs, move_at}
use Rattle.game.specs.Model.{RowSet, arena_of, objective_of}
use Rattle.game.specs.Demand.{TableOf}

-- what a line of the text puts where
abbrev pub Line : Type 0
Line = List (Place × ℕ)

abbrev pub job : ℕ → ℕ → ℕ → ℕ → ℕ → Line
job n r m p f = (Header 0, n) ∷ (Header 1, r) ∷ (Header 2, m) ∷ (Header 3, p) ∷ (Header 4, f) ∷ []

abbrev pub state : ℕ → ℕ → Line
state s mask = (Mask s, mask) ∷ []

-- the costs of actions k and on, of the one resource
abbrev pub costs : ℕ → ℕ → ℕ → List ℕ → Line
costs s a k [] = []
costs s a k (c ∷ cs) = (Cost s a k 0, c) ∷ costs s a (suc k) cs

abbrev pub acts : ℕ → ℕ → List ℕ → Line
acts s a cs = (Count s a, length cs) ∷ costs s a 0 cs

abbrev pub go : ℕ → ℕ → ℕ → ℕ → Line
go s a0 a1 q = (Next s (a0 + 4 * a1), q) ∷ []

-- row i: kind, left, right, team, bound
abbrev pub row : ℕ → ℕ → ℕ → ℕ → ℕ → ℕ → Line
row i kind left right team bound = (Field i 0, kind) ∷ (Field i 1, left) ∷ (Field i 2, right) ∷ (Field i 3, team) ∷ (Field i 4, bound) ∷ []

abbrev pub written : Line → Block → Block
written [] b = b
written ((x, v) ∷ rest) b = written rest (N.set b (place_of x) v)

abbrev pub written_all : List Line → Block → Block
written_all [] b = b
written_all (l ∷ rest) b = written_all rest (written l b)

-- the lines of Catch after the first
abbrev pub lines : List Line
lines =
    state 0 0
    ∷ acts 0 0 (0 ∷ 2 ∷ [])
    ∷ acts 0 1 (0 ∷ 0 ∷ [])
    ∷ go 0 0 0 0
    ∷ go 0 1 0 1
    ∷ go 0 0 1 0
    ∷ go 0 1 1 0
    ∷ state 1 0
    ∷ acts 1 0 (0 ∷ 3 ∷ [])
    ∷ acts 1 1 (0 ∷ [])
    ∷ go 1 0 0 1
    ∷ go 1 1 0 2
    ∷ state 2 1
    ∷ acts 2 0 (0 ∷ [])
    ∷ acts 2 1 (0 ∷ [])
    ∷ go 2 0 0 2
    ∷ row 0 L.prop_kind 0 0 0 0
    ∷ row 1 L.not_kind 0 0 0 0
    ∷ row 2 L.or_kind 0 1 0 0
    ∷ row 3 L.until_kind 2 0 1 5
    ∷ row 4 L.until_kind 2 0 3 5
    ∷ row 5 L.until_kind 2 0 3 4
    ∷ []

abbrev pub empty : Block
empty = replicate block_bytes 0

abbrev pub catch : Block
catch = written_all (job 2 1 3 1 6 ∷ lines) empty

-- Catch with the seventh row `always,2,0,1`
abbrev pub catch7 : Block
catch7 = written_all (job 2 1 3 1 7 ∷ row 6 L.always_kind 1 0 2 0 ∷ lines) empty

-- a state with a stock of the one resource
abbrev pub at : ℕ → ℕ → Position
at q s = position q (s ∷ [])

-- what a case says: a row's set; the rank, the move, or the reply to a move, at a position
pub data Case : Type 0 where
  set : Block → ℕ → ℕ → Case
  rank : Block → ℕ → Position → ℕ → Case
  move : Block → ℕ → Position → ℕ → Case
  reply : Block → ℕ → Position → ℕ → ℕ → Case
  both : Case → Case → Case

-- it holds of the meaning. Move and reply are those of a table that is decided at every position, and a reply stands where the opponents win
abbrev pub Holds : Case → Type 0
Holds (set b i w) = RowSet b i w
Holds (rank b i p n) = RankIs (arena_of b i) (objective_of b i) p n
Holds (move b i p m) = (X : Table) × TableOf b i X × (move_at (arena_of b i) X p ≡ m)
Holds (reply b i p m r) =
    (X : Table)
    × TableOf b i X
    × OpponentsWin (arena_of b i) (objective_of b i) p
    × ReplyIs (arena_of b i) X (objective_of b i) (CoalitionWins (arena_of b i) (objective_of b i)) p m r
Holds (both c d) = Holds c × Holds d

-- the starred cases, 1 to 13
abbrev pub starred : List Case
starred =
    set catch 0 4
    ∷ set catch 1 3
    ∷ set catch 2 7
    ∷ set catch 3 6
    ∷ set catch 4 7
    ∷ set catch 5 6
    ∷ rank catch 4 (at 0 5) 2
    ∷ rank catch 4 (at 0 4) 65535
    ∷ rank catch 4 (at 1 3) 1
    ∷ rank catch 4 (at 1 2) 65535
    ∷ reply catch 3 (at 0 5) 1 4
    ∷ reply catch 3 (at 0 5) 0 0
    ∷ both (set catch7 6 1) (move catch7 6 (at 0 0) 4)
    ∷ []

abbrev pub AllHold : List Case → Type 0
AllHold [] = Unit {0}
AllHold (c ∷ rest) = Holds c × AllHold rest
