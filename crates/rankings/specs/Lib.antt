-- What ranks say, by the kind of a row. Inner definitions: no call of the library cites them.
pub mod Kinds
