pub mod Turns
pub mod Counting
pub mod Sums
pub mod Runs
pub mod Rows
pub mod Parts
pub mod Flown
