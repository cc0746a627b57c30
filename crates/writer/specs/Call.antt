-- What the write call promises (document 01, "The text" and "Numbers for what is turned down").
use Rattle.std.specs.Prelude.{List, ◌∷◌, ◌++◌, ◌≡◌, ℕ, ◌-◌, ◌≤◌, length, replicate}
use Rattle.block.specs.Layout.{Block}
use Rattle.block.specs.Refusal.{Rule, ◌when◌, Answers, Kept}
use Rattle.block.specs.Check.{block_rules}
use Rattle.block.specs.declared.refusal.Refusal.TheVariants.{Length}
use Rattle.block.specs.Refusal.{Answer}
use Rattle.text.specs.Text.{text_bytes, text_of, RoundTrip}

-- a text buffer of another length, and then the block
abbrev pub write_rules : Block → List ℕ → List Rule
write_rules b t = Length when (length t ≡ text_bytes → ⊥) ∷ block_rules b

-- the buffer u holds the text of the block, n bytes long, and zeros after it; that text is read as the same block
pub record TextIn (b : Block) (u : List ℕ) (n : ℕ) : Type 0 where
  pub length_is : n ≡ length (text_of b)
  pub fits : n ≤ text_bytes
  pub bytes : u ≡ text_of b ++ replicate (text_bytes - n) 0
  pub same_block : RoundTrip b

-- what the write call promises of its answer and of the text buffer, t before it and u after it
pub record WriteCall (b : Block) (t u : List ℕ) (a : Answer) : Type 0 where
  pub answer : Answers (write_rules b t) (TextIn b u) a
  pub kept : Kept t u a
