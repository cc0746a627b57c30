-- Lengths of lent buffers, the words and tables that stand in them, and the states of a set as they are listed. All but Inner is to be
-- believed; Inner serves contracts of inner functions and proofs only.
pub mod Sizes
pub mod Buffers
pub mod Listed
pub mod Inner
