pub mod Words
pub mod Writing
pub mod Call
pub mod Settings
pub mod Load
pub mod Expand
