-- A list copied over another. Assumes nothing.
use mathlib.Core.List.{List, ◌++◌, append-nil}
use mathlib.Core.Path.{◌≡◌}
use Prim.Native.Nat.{ℕ, ◌≤◌}
use native.Mathlib.Omega.{arith}
use lib.ListN.{length, take, drop, drop_of_length-le}
use lib.Seq.{take-length}

-- a copy over a list of the same length
pub copied : (src dst : List ℕ) → length src ≡ length dst → take (length src) src ++ drop (length src) dst ≡ src
copied src dst e =
    let whole : length dst ≤ length src = omega arith in
    rw (take-length src, drop_of_length-le dst whole) (append-nil src)
