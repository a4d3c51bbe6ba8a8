pub mod Names
pub mod Trace
pub mod Row
pub mod Flight
pub mod Chain
