-- What the rehearsal call promises (document 02, R-6): from a state at full stock the team makes its table's moves, and a script gives one reply for each.
-- A rehearsal is the beginning of a play without end, and what is reported is that play's.
use Rattle.std.specs.Prelude.{List, [], ◌∷◌, ◌++◌, ◌⊎◌, ◌≡◌, ℕ, ◌≤◌, ◌<◌, get_or, length}
use Rattle.block.specs.Layout.{Block}
use Rattle.block.specs.Refusal.{Rule, ◌when◌, Answers, NoValue, Kept, RoomAfter}
use Rattle.block.specs.declared.refusal.Refusal.TheVariants as refusal
use Rattle.block.specs.Refusal.{Answer}
use Rattle.game.specs.Rbatl.{Computation}
use Rattle.game.specs.Position.{Arena, Position, Reply, number, full}
use Rattle.game.specs.Play.{Objective, next, always, until, True, Play, states, From, Paid}
use Rattle.game.specs.Table.{RankIs}
use Rattle.game.specs.Model.{arena_of, objective_of}
use Rattle.game.specs.Demand.{ByMoves}
use Rattle.turns.specs.Sizes.{room_bytes}
use Rattle.turns.specs.Buffers.{rank_in}
use Rattle.admission.specs.Admission.{state_rules}
use Rattle.lookup.specs.Calls.{side_rules}

-- the most bytes of a script, one for each reply
abbrev pub script_bytes : ℕ
script_bytes = 255

-- a report: 1 for finished or 0, the number of moves, and the number of the last position as a word
abbrev pub report_bytes : ℕ
report_bytes = 4

abbrev pub finished_in : List ℕ → ℕ
finished_in report = get_or report 0 0

abbrev pub moves_in : List ℕ → ℕ
moves_in report = get_or report 1 0

abbrev pub last_in : List ℕ → ℕ
last_in report = rank_in report 1

-- with a script of so many bytes, a row is finished after n moves: next after one, until where right holds, always when the script is used up
abbrev pub Finished : Objective → ℕ → Computation → ℕ → Type 0
Finished (next left) bytes λs n = n ≡ 1
Finished (until left right) bytes λs n = right (λs n)
Finished (always left) bytes λs n = n ≡ bytes

-- what a row shows that is finished: it is true on the play, which has no end; of always, left is true in every state so far
abbrev pub Shows : Objective → Computation → ℕ → Type 0
Shows (next left) λs n = True (next left) λs
Shows (until left right) λs n = True (until left right) λs
Shows (always left) λs n = (k : ℕ) → k ≤ n → left (λs k)

-- until takes no more moves than the rank of p
abbrev pub WithinRank : Arena → Objective → Position → ℕ → Type 0
WithinRank G (until left right) p n = (rank : ℕ) → RankIs G (until left right) p rank → n ≤ rank
WithinRank G (always left) p n = Unit {0}
WithinRank G (next left) p n = Unit {0}

module _ (G : Arena) (t : Objective) (script : List ℕ) (p : Position) where
  -- a play without end from p by the team's moves, whose first n replies are the script's bytes; the row was not finished before
  pub record Scripted (P : Play G) (n : ℕ) : Type 0 where
    pub from : From G p P
    pub by_moves : ByMoves G t P
    pub replies : (k : ℕ) → k < n → P.reply k ≡ get_or script k 0
    pub unfinished : (k : ℕ) → k < n → Finished t (length script) (states G P) k → ⊥

  -- a byte of the script that is no available reply when its turn comes
  pub record Unavailable : Type 0 where
    pub play : Play G
    pub turn : ℕ
    pub inside : turn < length script
    pub scripted : Scripted play turn
    pub goes_on : Finished t (length script) (states G play) turn → ⊥
    pub none : Reply G (play.at turn) (get_or script turn 0) → ⊥

  -- f is 1 where the row is finished after n moves, and 0 where the script ran out first; always is then finished
  abbrev pub Status : Play G → ℕ → ℕ → Type 0
  Status P n f =
      ((f ≡ 1) × Finished t (length script) (states G P) n)
      ⊎ ((f ≡ 0) × (Finished t (length script) (states G P) n → ⊥) × (n ≡ length script))

  -- so the rehearsal ends after n moves of such a play
  pub record Ends (P : Play G) (n f : ℕ) : Type 0 where
    pub scripted : Scripted P n
    pub inside : n ≤ length script
    pub status : Status P n f

-- what is reported of a script from p
pub record Reports (G : Arena) (t : Objective) (script : List ℕ) (p : Position) (report : List ℕ) : Type 0 where
  -- it is that of a play, and no other play ends otherwise
  pub play : Play G
  pub ends : Ends G t script p play (moves_in report) (finished_in report)
  pub last : last_in report ≡ number G (play.at (moves_in report))
  pub only : (P : Play G) (n f : ℕ) → Ends G t script p P n f → (n ≡ moves_in report) × (f ≡ finished_in report) × (P.at n ≡ play.at n)
  -- bytes past the end are not read: with others in their place it ends so too
  pub unread :
      (other : List ℕ) → length other ≡ length script → ((k : ℕ) → k < moves_in report → get_or other k 0 ≡ get_or script k 0)
      → Ends G t other p play (moves_in report) (finished_in report)
  pub within_rank : WithinRank G t p (moves_in report)
  -- every play that begins so never overspends the stock, and where the row is finished it shows what it shows
  pub paid : (P : Play G) → Scripted G t script p P (moves_in report) → Paid G P
  pub shows : finished_in report ≡ 1 → (P : Play G) → Scripted G t script p P (moves_in report) → Shows t (states G P) (moves_in report)
  pub long : length report ≡ report_bytes

-- a script that is longer, a report or a room of another length; then the block, the row and the state
abbrev pub admission_rules : Block → ℕ → ℕ → ℕ → ℕ → ℕ → List Rule
admission_rules b i s script report room =
    refusal.Length when (script_bytes < script)
    ∷ refusal.Length when (report ≡ report_bytes → ⊥)
    ∷ refusal.Length when (room ≡ room_bytes → ⊥)
    ∷ state_rules b i s

-- a first position that the team does not win, script empty or not; then a byte of the script that is no reply
abbrev pub play_rules : Block → ℕ → ℕ → List ℕ → List Rule
play_rules b i s script =
    let p = full (arena_of b i) s in
    side_rules b i p ++ (refusal.Reply when Unavailable (arena_of b i) (objective_of b i) script p ∷ [])

abbrev pub rehearsal_rules : Block → ℕ → ℕ → List ℕ → ℕ → ℕ → List Rule
rehearsal_rules b i s script report room = admission_rules b i s (length script) report room ++ play_rules b i s script

-- the report of row i from state s at full stock
abbrev pub RowReports : Block → ℕ → ℕ → List ℕ → List ℕ → Type 0
RowReports b i s script = Reports (arena_of b i) (objective_of b i) script (full (arena_of b i) s)

-- report and room, before the call and after it
pub record RehearsalCall (b : Block) (i s : ℕ) (script report room report' room' : List ℕ) (a : Answer) : Type 0 where
  pub answer : Answers (rehearsal_rules b i s script (length report) (length room)) (λ n. NoValue n × RowReports b i s script report') a
  pub kept : Kept report report' a
  pub room_after : RoomAfter room room' a
