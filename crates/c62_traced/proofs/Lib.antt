pub mod Passing
pub mod Ranges
pub mod Entries
pub mod Quiet
pub mod Cycles
pub mod Tracing
pub mod Packets
pub mod Chaining
