-- All of it is to believe: what the state lister and its second call promise.
pub mod States
