pub mod Texts
pub mod Documents
