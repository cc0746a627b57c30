-- What the steps of the reader come to. Nothing here is to be believed: the read call's contract (text's Text) cites none of it.
pub mod Inner
