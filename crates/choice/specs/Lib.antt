-- What each side does at a position by the ranks. Inner definitions: no call of the library cites them.
pub mod Tables
pub mod Choices
pub mod Filling
