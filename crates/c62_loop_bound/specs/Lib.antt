pub mod Share
pub mod Circle
pub mod Least
pub mod Steps
pub mod Cause
