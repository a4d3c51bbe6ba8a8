pub mod Fields
pub mod Row
pub mod Issued
