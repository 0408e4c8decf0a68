mod Stations
mod Sums
mod Filled
