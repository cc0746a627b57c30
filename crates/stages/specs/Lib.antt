-- Ranks by stages. Inner definitions: no call of the library cites them.
pub mod Stages
pub mod Solving
