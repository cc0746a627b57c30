-- How reading goes on from what is found at a place.
pub mod Reading
