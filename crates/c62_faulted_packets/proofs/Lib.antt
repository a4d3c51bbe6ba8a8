mod Done
mod Blocks
mod Chains
mod Rows
pub mod Lines
