pub mod Limits
pub mod Landings
pub mod Causes
pub mod Registers
pub mod Shown
pub mod Laws
