-- A rehearsal turn by turn: where it stands, what a turn comes to, and how it ends.
use Rattle.std.specs.Prelude.{Option, None, Some, cond, List, ◌≡◌, ℕ, get_or, length}
use Rattle.block.specs.Decide.{Bit}
use Rattle.game.specs.Position.{Arena, Position, Reply, outcome}
use Rattle.game.specs.Play.{Objective, Play, states, CoalitionWins}
use Rattle.game.specs.Demand.{CoalitionMove}
use Rattle.ways.specs.Places.{PlacedAt}
use Rattle.rankings.specs.Kinds.{by_strategy}
use Rattle.rehearsal.specs.Rehearsal.{Finished, Scripted, Unavailable, Ends}
use Rattle.ways.specs.declared.rows.Spot.{Spot}
use Rattle.rehearsal.specs.declared.script.Ended.{Ended}

-- a row is finished in state q after n moves, its right row told by a set
abbrev pub FinishedBy : ℕ → ℕ → ℕ → ℕ → ℕ → Type 0
FinishedBy kind right bytes q n = by_strategy kind (n ≡ 1) (n ≡ bytes) (Bit right q)

module _ (G : Arena) (t : Objective) where
  -- the spot where the coalition's move and the reply r lead from the position p, or that r is no reply there
  abbrev pub Turned : Position → ℕ → Option Spot → Type 0
  Turned p r (Some spot) = Reply G p r × ((m : ℕ) × CoalitionMove G t p m × PlacedAt G spot.state spot.place (outcome G p m r))
  Turned p r None = Reply G p r → ⊥

  module _ (script : List ℕ) (p : Position) where
    -- after n moves the play stands in state s at stock place x. It goes on by the script wherever that can be, and while the row is unfinished the
    -- coalition wins
    pub record Stands (n s x : ℕ) : Type 0 where
      pub play : Play G
      pub scripted : Scripted G t script p play n
      pub obeys : (k : ℕ) → Reply G (play.at k) (get_or script k 0) → play.reply k ≡ get_or script k 0
      pub placed : PlacedAt G s x (play.at n)
      pub wins : (Finished t (length script) (states G play) n → ⊥) → CoalitionWins G t (play.at n)

    -- how it ends, or that a byte of the script is no reply
    abbrev pub EndsAs : Option Ended → Type 0
    EndsAs (Some e) = (P : Play G) × Ends G t script p P e.moves (cond e.finished 1 0) × PlacedAt G e.last.state e.last.place (P.at e.moves)
    EndsAs None = Unavailable G t script p
