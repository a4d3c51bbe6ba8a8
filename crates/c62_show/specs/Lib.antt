pub mod Limits
pub mod Head
pub mod Whys
pub mod Registers
pub mod Picture
pub mod Summary
pub mod Laws
