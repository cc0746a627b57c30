-- What the steps of the writer do: each adds to the end of the text, and what the text has stays.
use Rattle.std.specs.Prelude.{◌++◌, ◌≡◌, ℕ, ◌+◌, ◌<◌, length}
use Rattle.block.specs.Layout.{Block}
use Rattle.text.specs.Format.{Format, write}
use Rattle.text.specs.declared.output.Output.{Output}
use Rattle.text.specs.declared.sizes.Edition.TheVariants.{Second}
use Rattle.text.specs.declared.sizes.Sizes.{Sizes}
use Rattle.text.specs.Inner.Adding.{front}
use Rattle.text.specs.Inner.Fields.{sizes_of}
use Rattle.text.specs.Text.{text_bytes}

-- a part of a format has been added, whatever follows it
abbrev pub Past : Block → (Format → Format) → Output → Output → Type 0
Past b part t u = (f : Format) → front u ++ write f b ≡ front t ++ write (part f) b

-- the same where what follows depends on a value v
abbrev pub PastWith : {A : Type 0} → Block → ((A → Format) → Format) → A → Output → Output → Type 0
PastWith {A} b part v t u = (f : A → Format) → front u ++ write (f v) b ≡ front t ++ write (part f) b

-- the writer's buffer has room for n bytes more, and a byte to spare, since a number is always given four
abbrev pub Room : Output → ℕ → Type 0
Room t n = (length t.text.now ≡ text_bytes) × (t.len + n < text_bytes)

-- what the first line of a block's text tells: the writer writes edition 2
abbrev pub written_sizes : Block → Sizes
written_sizes b = sizes_of Second b
