-- To believe: Rehearsal, what the rehearsal call promises. Inner serves contracts of inner functions and proofs only.
pub mod Rehearsal
pub mod Inner
