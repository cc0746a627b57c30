-- Definitions that serve proofs and the contracts of inner functions only.
pub mod Rows
pub mod Needs
pub mod Labels
pub mod Ready
