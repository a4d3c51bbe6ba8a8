mod Holding
mod Crowds
pub mod AtLeast
