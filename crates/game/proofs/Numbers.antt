-- What needs numbers alone: ranks along a play, stocks, the digits of a joint action, counting, words as bytes.
pub mod Ranks
pub mod Decide
pub mod Pigeonhole
pub mod Joint
pub mod Stocks
pub mod Counting
pub mod Values
