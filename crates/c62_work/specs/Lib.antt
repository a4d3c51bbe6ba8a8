pub mod Turns
pub mod Finish
pub mod Schedule
pub mod Worker
pub mod Bells
