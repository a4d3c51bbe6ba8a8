pub mod Reason
pub mod Words
