-- The laws that the worksheet call rests on.
mod Sheets
