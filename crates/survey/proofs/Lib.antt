pub mod AllSurveyed
pub mod Figures
pub mod Record
pub mod Widths
