-- Sets of states as words. Inner definitions: no call of the library cites them.
pub mod Boards
