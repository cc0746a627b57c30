-- `rbatl_list` hands over the length of the listing, or the refusal.
use Rattle.rbatl.proofs.Values.{small_listing}
use Rattle.rbatl.proofs.rbatl_list.Goals as goal

pub code-requires : goal.code-requires
code-requires c = small_listing c.args.text.now c.args.listing.now c.args.ranks.now c.args.moves.now c.listing.new.out c.listing.new.ranks c.listing.new.moves c.listing.result c.listing.ensures
