mod Digits
mod Fields
mod Words
pub mod Taken
pub mod Deciding
