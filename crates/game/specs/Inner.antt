-- Definitions that serve proofs and the contracts of inner functions only.
pub mod Stocks
pub mod Parts
pub mod Words
pub mod Facts
pub mod Sweep
