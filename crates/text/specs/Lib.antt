-- The text of a job (document 01, "The text"): one description, from which writing and reading both follow.
-- To believe: Text, what the read call promises, and the files that it rests on. Inner serves contracts of inner functions and proofs only.
pub mod Numeral
pub mod Format
pub mod Job
pub mod Broken
pub mod Text
pub mod Inner
