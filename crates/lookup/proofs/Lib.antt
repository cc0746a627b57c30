-- The laws that the calls about one position rest on.
pub mod Answering
pub mod Replying
