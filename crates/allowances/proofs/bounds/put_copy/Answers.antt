-- `put_copy` copies the job and puts the bounds into the copy.
use mathlib.Core.Path.{◌∙◌}
use Rattle.allowances.proofs.bounds.put_copy.Goals as goal

pub put-requires : goal.put-requires
put-requires c = rw c.copy_from_slice.ensures.after record { valid = c.requires.valid; i_bound = (c.requires.i_bound.0, c.requires.i_bound.1, c.requires.i_bound.2) }

pub returns : goal.returns
returns c =
    let put = rw c.copy_from_slice.ensures.after at c.put.ensures in
    (put, put.only.long ∙ c.requires.valid.sized.bytes)
