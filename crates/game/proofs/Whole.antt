-- From local facts to whole plays without end: both sides, the fewest moves, demand 3.
pub mod Choices
pub mod Realise
pub mod Settled
pub mod Bounded
pub mod Winning
pub mod Losing
pub mod Replies
pub mod Decided
pub mod Unique
pub mod Demand
pub mod Onward
