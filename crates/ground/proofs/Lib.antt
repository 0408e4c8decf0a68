pub mod MaskLaws
pub mod Inclusion
pub mod Collect
pub mod UpTo
pub mod Sizes
mod Computed
