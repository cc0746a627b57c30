-- `label_needed` labels the rows of the word that `needed` gives.
use native.Mathlib.Omega.{arith}
use Rattle.solver.proofs.Needing.{needed_closed, needed_labelled}
use Rattle.solver.proofs.label.label_needed.Goals as goal

pub label_rows-requires : goal.label_rows-requires
label_rows-requires c = record { valid = c.requires.valid; n_bound = (omega (arith, c.requires.i_bound.0), c.requires.i_bound.1, c.requires.i_bound.2, c.requires.i_bound.3); closed = needed_closed c.args.block.now c.requires.valid c.args.i c.requires.i_bound.0 c.needed-word.result c.needed-word.ensures }

pub returns : goal.returns
returns c = record { rows_labelled = needed_labelled c.args.block.now c.requires.valid c.args.i c.requires.i_bound.0 c.needed-word.result c.needed-word.ensures c.label_rows.ensures.rows_labelled; ways_len_unchanged = c.label_rows.ensures.ways_len_unchanged }
