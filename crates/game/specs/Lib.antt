-- What a formula row means (document 003), and what a row's table says about whole plays (document 01, "When a row is true").
-- All but Inner is to be believed; Inner serves contracts of inner functions and proofs only.
pub mod Rbatl
pub mod Position
pub mod Play
pub mod Table
pub mod Model
pub mod Demand
pub mod Catch
pub mod Inner
