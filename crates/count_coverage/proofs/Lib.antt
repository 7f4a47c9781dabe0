mod Tallies
mod Standings
mod Counting
