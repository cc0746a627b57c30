-- All of it is to believe: the lines of a listing.
pub mod Lines
