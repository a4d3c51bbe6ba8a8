pub mod Ranks
pub mod Steps
pub mod Filling
pub mod Placings
