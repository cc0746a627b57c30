-- What a block's bytes mean, and what the block check decides (document 01, "The job" and "Numbers for what is turned down").
-- To believe: Check, what each number refuses, and the files that it rests on. Inner serves contracts of inner functions and proofs only.
pub mod Decide
pub mod Refusal
pub mod Layout
pub mod Check
pub mod Inner
