-- What ranks say, by the kind of a row.
pub mod ByKind
