-- The laws that the smallest allowances rest on.
pub mod Stairs
pub mod Pairing
pub mod Putting
pub mod Tabling
pub mod Filling
pub mod Calls
