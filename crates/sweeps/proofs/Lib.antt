-- From the listed moves and replies of a row to ranks that are at rest.
pub mod Gathering
pub mod Valuing
pub mod Offering
pub mod Trying
pub mod Lowering
pub mod Sweeping
pub mod Working
pub mod Starting
