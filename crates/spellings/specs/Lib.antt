-- Inner serves contracts of inner functions and proofs only.
pub mod Inner
