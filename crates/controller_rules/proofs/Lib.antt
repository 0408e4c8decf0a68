mod Joined
mod Quantified
