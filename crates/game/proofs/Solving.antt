-- Ranks that have the local facts: what lowering in place keeps, that it comes to rest, and a solver over lists.
pub mod Sides
pub mod Sweeping
pub mod Solver
pub mod Determined
