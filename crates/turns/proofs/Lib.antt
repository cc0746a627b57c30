-- Laws of a turn: words as bytes, lists of numbers and their largest, numbers of positions, where a move leads, the opponents' replies.
pub mod Bytes
pub mod Numbering
pub mod Opponents
pub mod Costs
pub mod Totals
pub mod TeamMoves
pub mod Listing
