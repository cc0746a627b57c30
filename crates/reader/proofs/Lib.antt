-- Laws that belong to no one function.
pub mod Progress
pub mod Calls
