-- `enough` reads the one table where there is one, and else solves the row anew.
use mathlib.Core.Path.{◌≡◌}
use Prim.Native.Nat.{ℕ}
use native.Mathlib.Omega.{arith}
use Rattle.allowances.proofs.pairs.enough.Goals as goal

pub told-requires : goal.told-requires
told-requires c = record { asking = (c.requires.asking, c.requires.lent.3 c.if-ask.true, c.requires.lent.2); shows = c.requires.shows }

pub returns-then-ask : goal.returns-then-ask
returns-then-ask c = record { decides = c.told.ensures; lent_2 = c.requires.lent }

pub solved-requires : goal.solved-requires
solved-requires c = record { asking = c.requires.asking; shows = c.requires.shows; copy_len = (c.requires.lent.0, c.requires.lent.1, c.requires.lent.2) }

pub returns : goal.returns
returns c = record { decides = c.solved.ensures.decides; lent_2 = (c.solved.ensures.copy_len_2.0, c.solved.ensures.copy_len_2.1, c.solved.ensures.copy_len_2.2, λ e. let z : ◌≡◌ {A = ℕ} 0 1 = cc in absurd (omega arith)) }
