-- `find` labels the rows below, and lists by trying other bounds.
use mathlib.Core.Path.{◌∙◌, subst₂}
use Prim.Native.Nat.{ℕ}
use lib.ListN.{length-replicate}
use Rattle.turns.proofs.Bytes.{cleared}
use Rattle.allowances.specs.Allowances.{allowances_bytes, AllowancesIn}
use Rattle.allowances.proofs.call.find.Goals as goal

pub made_ready-ask-requires : goal.made_ready-ask-requires
made_ready-ask-requires c = record { valid = c.requires.valid; i_bound = (c.requires.i_bound.0, c.requires.i_bound.1, c.requires.i_bound.2, c.lower_sets-lower.ensures.lower_told); copy_len = (length-replicate {A = ℕ} 2471 0, c.lower_sets-lower.ensures.ways_len_unchanged.0 ∙ length-replicate {A = ℕ} 6704 0, c.lower_sets-lower.ensures.ways_len_unchanged.1 ∙ c.requires.list_len.1) }

pub list_pairs-requires : goal.list_pairs-requires
list_pairs-requires c = record { asking = c.made_ready-ask.ensures.0; list_value = cleared c.args.list.now _ allowances_bytes c.zeros.ensures c.requires.list_len.0; lent = c.made_ready-ask.ensures.3 }

pub returns : goal.returns
returns c = (
  subst₂ (λ (i s : ℕ). AllowancesIn c.args.block.now i s c.list_pairs.new.list c.list_pairs.result) c.made_ready-ask.ensures.1 c.made_ready-ask.ensures.2 c.list_pairs.ensures.allowances_in,
  c.list_pairs.ensures.lent_2.2,
)
