pub mod Texts
pub mod EitherForm
