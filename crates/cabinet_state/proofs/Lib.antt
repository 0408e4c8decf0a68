mod Heads
mod Leaving
mod OneWord
mod ReadBack
