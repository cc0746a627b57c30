-- The laws of sets as words.
mod Gathering
pub mod Words
