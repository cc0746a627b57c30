-- Two blocks that differ in some fields of one row alone.
use Rattle.std.specs.Prelude.{◌≡◌, ℕ, ◌+◌, ◌≤◌, ◌<◌, length}
use Rattle.block.specs.Layout as L
use Rattle.block.specs.Layout.{Block, row_bytes, bound_byte, resources, place_of, byte_at}
use Rattle.block.specs.declared.layout.Place.TheVariants.{Field}

-- b' is b but for the fields of row i that may change
pub record OnlyFields (i : ℕ) (Changed : ℕ → Type 0) (b b' : Block) : Type 0 where
  pub long : length b' ≡ length b
  pub fields : (f : ℕ) → Changed f → f < row_bytes
  pub same : (p : ℕ) → ((f : ℕ) → Changed f → p ≡ place_of (Field i f) → ⊥) → byte_at b' p ≡ byte_at b p

-- a field that holds the bound of a resource
abbrev pub IsBound : Block → ℕ → Type 0
IsBound b f = (bound_byte ≤ f) × (f < bound_byte + resources b)

-- row k asks the same of the same team, within its bounds or others
pub record SameAim (k : ℕ) (b b' : Block) : Type 0 where
  pub kind : L.kind b' k ≡ L.kind b k
  pub left : L.left b' k ≡ L.left b k
  pub right : L.right b' k ≡ L.right b k
  pub team : L.team b' k ≡ L.team b k
