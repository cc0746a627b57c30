-- What contracts of inner functions and proofs use; no statement of an entry point cites it.
pub mod Tests
pub mod Places
pub mod Valid
pub mod OneRow
