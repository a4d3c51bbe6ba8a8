pub mod Step
pub mod Ground
pub mod Counts
