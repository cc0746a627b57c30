-- What the team's move and the reply calls promise (document 01, "When a row is true" and "Numbers for what is turned down").
use Rattle.std.specs.Prelude.{List, [], ◌∷◌, ◌++◌, ◌≡◌, ℕ, length}
use Rattle.block.specs.Layout.{Block}
use Rattle.block.specs.Refusal.{Rule, ◌when◌, Answers, RoomAfter}
use Rattle.block.specs.declared.refusal.Refusal.TheVariants as refusal
use Rattle.block.specs.Refusal.{Answer}
use Rattle.game.specs.Position.{Position, position, Allowed}
use Rattle.game.specs.Play.{CoalitionWins}
use Rattle.game.specs.Model.{arena_of, objective_of}
use Rattle.game.specs.Demand.{RowMove, RowReply}
use Rattle.turns.specs.Sizes.{room_bytes}
use Rattle.admission.specs.Admission.{position_rules}

-- the team's move where it does not win
abbrev pub side_rules : Block → ℕ → Position → List Rule
side_rules b i p = refusal.WrongSide when (CoalitionWins (arena_of b i) (objective_of b i) p → ⊥) ∷ []

-- a reply where it does, and to a move that is unavailable or not affordable
abbrev pub answer_rules : Block → ℕ → Position → ℕ → List Rule
answer_rules b i p m =
    refusal.WrongSide when CoalitionWins (arena_of b i) (objective_of b i) p
    ∷ refusal.Move when (Allowed (arena_of b i) p m → ⊥)
    ∷ []

-- each call: a room of another length, then these
abbrev pub move_rules : Block → ℕ → ℕ → List ℕ → List ℕ → List Rule
move_rules b i s stocks room = refusal.Length when (length room ≡ room_bytes → ⊥) ∷ position_rules b i s stocks ++ side_rules b i (position s stocks)

abbrev pub reply_rules : Block → ℕ → ℕ → List ℕ → ℕ → List ℕ → List Rule
reply_rules b i s stocks m room = refusal.Length when (length room ≡ room_bytes → ⊥) ∷ position_rules b i s stocks ++ answer_rules b i (position s stocks) m

-- the answer, and the room before and after the call
pub record Call (rules : List Rule) (Right : ℕ → Type 0) (room room' : List ℕ) (a : Answer) : Type 0 where
  pub answer : Answers rules Right a
  pub room_after : RoomAfter room room' a

abbrev pub MoveCall : Block → ℕ → ℕ → List ℕ → List ℕ → List ℕ → Answer → Type 0
MoveCall b i s stocks room = Call (move_rules b i s stocks room) (RowMove b i (position s stocks)) room

abbrev pub ReplyCall : Block → ℕ → ℕ → List ℕ → ℕ → List ℕ → List ℕ → Answer → Type 0
ReplyCall b i s stocks m room = Call (reply_rules b i s stocks m room) (RowReply b i (position s stocks) m) room
