-- What the ranks of an until or an always row have to be, and what a sweep over them keeps.
pub mod Values
pub mod Sweeps
pub mod Solving
