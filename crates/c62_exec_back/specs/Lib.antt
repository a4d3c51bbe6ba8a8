pub mod Spaced
pub mod Laws
