pub mod Starts
pub mod Rows
pub mod Named
pub mod Told
pub mod Lines
pub mod Laws
