-- The theorems of the game: from local facts of a table to claims about whole plays.
pub mod Numbers
pub mod Bridge
pub mod Local
pub mod Whole
pub mod Solving
pub mod Blocks
pub mod Starred
