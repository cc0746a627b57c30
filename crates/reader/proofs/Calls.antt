-- What the read call comes to, by the lengths of the text and the block.
-- Assumes nothing.
use mathlib.Core.List.{List}
use mathlib.Core.Path.{◌≡◌}
use Prim.Native.Nat.{ℕ, ◌≤◌, ◌<◌}
use borrow.Author.Tests.{lt-ltb, le-ltb, eq-eqb, ne_eqb}
use lib.ListN.{length}
use Rattle.block.specs.Layout.{Block, block_bytes}
use Rattle.block.specs.declared.refusal.Refusal.TheVariants.{Length}
use Rattle.text.specs.Format.{refused}
use Rattle.text.specs.Text.{text_bytes, read_text, read_call}

module _ (t : List ℕ) (b : Block) where
  pub read_long : text_bytes < length t → read_call t b ≡ refused Length t
  read_long h = simp (lt-ltb text_bytes (length t) h)

  pub read_other : length t ≤ text_bytes → (length b ≡ block_bytes → ⊥) → read_call t b ≡ refused Length t
  read_other h n = simp (le-ltb text_bytes (length t) h, ne_eqb (length b) block_bytes n)

  pub read_whole : length t ≤ text_bytes → length b ≡ block_bytes → read_call t b ≡ read_text t
  read_whole h e = simp (le-ltb text_bytes (length t) h, eq-eqb (length b) block_bytes e)
