-- What a C caller is handed back.
pub mod Answer
