pub mod Any
pub mod Told
