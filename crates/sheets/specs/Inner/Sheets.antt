-- The words of a worksheet, once its row is admitted.
use Rattle.std.specs.Prelude.{List, ◌∷◌, ◌≡◌, ℕ, ◌<◌}
use Rattle.block.specs.Layout.{Block}
use Rattle.block.specs.Refusal.{Rule, ◌when◌, Answers}
use Rattle.block.specs.declared.refusal.Refusal.TheVariants as refusal
use Rattle.block.specs.Refusal.{Answer}
use Rattle.game.specs.Position.{position}
use Rattle.game.specs.Demand.{RowMove}
use Rattle.turns.specs.Buffers.{rank_in}
use Rattle.admission.specs.Admission.{NoPosition}
use Rattle.lookup.specs.Calls.{side_rules}
use Rattle.sheets.specs.Worksheet.{state_in, stocks_in, word_for}

-- what is left to be tried at a position
abbrev pub place_rules : Block → ℕ → ℕ → List ℕ → List Rule
place_rules b i s stocks = refusal.Position when NoPosition b i s stocks ∷ side_rules b i (position s stocks)

-- a is what is answered at position k of the list
pub record AnsweredAt (b : Block) (i : ℕ) (list : List ℕ) (k : ℕ) (a : Answer) : Type 0 where
  pub answer : Answers (place_rules b i (state_in list k) (stocks_in list k)) (RowMove b i (position (state_in list k) (stocks_in list k))) a

-- w is the word for it
abbrev pub ToldAt : Block → ℕ → List ℕ → ℕ → ℕ → Type 0
ToldAt b i list k w = (a : Answer) × AnsweredAt b i list k a × (w ≡ word_for a)

-- the first n words are these
abbrev pub WordsTo : Block → ℕ → List ℕ → List ℕ → ℕ → Type 0
WordsTo b i list words n = (k : ℕ) → k < n → ToldAt b i list k (rank_in words k)
