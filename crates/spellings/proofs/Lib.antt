-- How the spelling of a field is searched for.
mod Searches
