-- What contracts of inner functions and proofs use; no statement of an entry point cites it.
pub mod Adding
pub mod Fields
