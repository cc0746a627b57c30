-- To believe: Allowances, what the allowances call promises. Inner serves contracts of inner functions and proofs only.
pub mod Allowances
pub mod Inner
