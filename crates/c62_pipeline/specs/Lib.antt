pub mod Limit
pub mod Meeting
pub mod Chosen
pub mod Checked
pub mod Lined
pub mod Lines
pub mod Kernel
pub mod Laws
