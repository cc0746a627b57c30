-- All of it is to believe: the listing that the program prints, and what its call answers.
pub mod Listing
pub mod Call
