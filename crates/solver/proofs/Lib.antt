-- The laws that the solver's parts rest on.
pub mod Words
pub mod Ranking
pub mod Readiness
pub mod Labelling
pub mod Needing
pub mod Calls
pub mod Tabling
