-- Laws that belong to no one function.
pub mod Decide
pub mod Chains
pub mod Masks
pub mod Ones
pub mod Digits
pub mod Places
pub mod OneRow
pub mod Passing
pub mod Zeros
pub mod Copies
pub mod Refusals
pub mod Signed
