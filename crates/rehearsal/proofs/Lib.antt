-- The laws that the rehearsal call rests on.
pub mod Rehearsing
pub mod Turning
pub mod Standing
pub mod Calls
