-- To believe: Call, what the write call promises. Inner serves contracts of inner functions and proofs only.
pub mod Call
pub mod Inner
