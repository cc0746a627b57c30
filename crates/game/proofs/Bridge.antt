-- Between document 003 and positions: moves, plays and computations, strategies, truth.
pub mod Proper
pub mod Costs
pub mod Moves
pub mod Plays
pub mod Strategies
pub mod Truth
pub mod Agreeing
pub mod Uncharged
pub mod More
