-- Laws of what each side does at a position by the ranks.
pub mod Searching
pub mod Moving
pub mod Filling
pub mod Replying
pub mod Marking
