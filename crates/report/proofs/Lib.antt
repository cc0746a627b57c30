-- Laws that belong to no one function.
pub mod Planning
pub mod Rowwise
pub mod Jobwise
pub mod Printing
