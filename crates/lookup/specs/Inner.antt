-- Definitions that serve proofs and the contracts of inner functions only.
pub mod Spots
