-- `rbatl_read_at` hands over where reading stops.
use Rattle.rbatl.proofs.Values.{small_stop}
use Rattle.rbatl.proofs.rbatl_read_at.Goals as goal

pub code-requires : goal.code-requires
code-requires c = small_stop c.args.text.now c.read_at.result c.read_at.ensures
