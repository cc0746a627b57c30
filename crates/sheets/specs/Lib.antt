-- To believe: Worksheet, what the worksheet call promises. Inner serves contracts of inner functions and proofs only.
pub mod Worksheet
pub mod Inner
