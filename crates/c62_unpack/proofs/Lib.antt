pub mod Orders
pub mod Unpacking
