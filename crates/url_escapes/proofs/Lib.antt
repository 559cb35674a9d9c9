mod Expansions
mod Dates
