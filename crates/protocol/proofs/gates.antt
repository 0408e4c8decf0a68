-- No Move without every willing vote; a gate moves at most once.
pub mod Frames
pub mod Moves
