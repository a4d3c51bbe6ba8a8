pub mod Found
pub mod Traced
