-- Laws of the listed moves and replies: lines of a listing, stock places, what a place pays, and where a move leads.
pub mod Filling
pub mod Offsets
pub mod Placing
pub mod Packing
pub mod Largest
pub mod Leading
pub mod Marking
pub mod Coming
pub mod Tells
pub mod Starting
