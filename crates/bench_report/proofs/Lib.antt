pub mod Room
mod Fitting
mod Short
mod Counting
mod Decades
