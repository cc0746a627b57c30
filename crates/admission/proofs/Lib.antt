-- What admission tells.
pub mod Admitting
