-- Laws that belong to no one function.
pub mod Writing
pub mod Calls
