-- Local facts of a table: number by number, however lower rows are told, decided by computation.
pub mod Decidable
pub mod Same
pub mod ByNumber
pub mod Lower
pub mod Aims
pub mod Exist
