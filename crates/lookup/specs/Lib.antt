-- To believe: Calls, what the team's move and the reply calls promise. Inner serves contracts of inner functions and proofs only.
pub mod Calls
pub mod Inner
