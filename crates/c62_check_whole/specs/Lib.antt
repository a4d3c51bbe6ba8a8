pub mod Promised
pub mod Whole
pub mod Lined
pub mod Written
