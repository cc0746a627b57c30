-- Laws of the table of parts.
pub mod Tables
