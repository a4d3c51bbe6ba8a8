pub mod Bound
pub mod Waiting
pub mod Path
pub mod Length
pub mod Laws
