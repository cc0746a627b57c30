-- The laws that the lister rests on.
mod Calls
