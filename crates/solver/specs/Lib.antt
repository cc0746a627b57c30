-- To believe: Calls, what the label and the table calls promise. Inner serves contracts of inner functions and proofs only.
pub mod Calls
pub mod Inner
