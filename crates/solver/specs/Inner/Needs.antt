-- The rows that a row needs: those that it names, directly or through others.
use Rattle.std.specs.Prelude.{◌⊎◌, ◌≡◌, ℕ, ◌<◌}
use Rattle.block.specs.Layout as L
use Rattle.block.specs.Layout.{Block}

-- row i names row j, left or right
abbrev pub Names : Block → ℕ → ℕ → Type 0
Names b i j = ((L.prop_kind < L.kind b i) × (j ≡ L.left b i)) ⊎ (L.Binary (L.kind b i) × (j ≡ L.right b i))

pub data Needs (b : Block) (i : ℕ) : ℕ → Type 0 where
  directly : {j : ℕ} → Names b i j → Needs b i j
  through : {k j : ℕ} → Needs b i k → Names b k j → Needs b i j
