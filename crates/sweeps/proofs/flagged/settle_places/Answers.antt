-- `settle_places` goes by whether any move gives, and settles the places in the one order or the other.
use Rattle.sweeps.proofs.flagged.settle_places.Goals as goal

pub settle_rising-requires : goal.settle_rising-requires
settle_rising-requires c = record { valid = c.requires.valid; playable = c.requires.playable; into_value = (c.requires.into_value, c.if-row.false) }
