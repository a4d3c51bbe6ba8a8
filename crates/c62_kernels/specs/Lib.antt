pub mod Schedule
pub mod Tasks
