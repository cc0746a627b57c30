-- The moves of a row and the replies to them as they are listed, and where they lead. Inner definitions: no call of the library cites them.
pub mod Lines
pub mod Rows
pub mod Places
pub mod Extremes
pub mod Packed
pub mod Listing
pub mod Landing
pub mod Back
pub mod First
