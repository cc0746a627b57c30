-- The rows of a block.
pub mod Reading
pub mod Passing
pub mod Formulas
pub mod OneRow
pub mod Tables
pub mod More
pub mod Labels
pub mod Tests
pub mod Uncharged
pub mod Rowwise
