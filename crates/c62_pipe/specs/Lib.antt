pub mod Flight
pub mod Chain
pub mod Alike
