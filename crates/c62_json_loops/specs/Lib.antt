pub mod Loops
pub mod Rest
pub mod Judged
