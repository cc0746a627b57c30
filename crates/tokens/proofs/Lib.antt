-- What is found in a text at a place, by the bytes there.
pub mod NumbersAt
pub mod ChargesAt
pub mod WordsAt
