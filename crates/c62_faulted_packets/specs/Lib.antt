pub mod Done
pub mod Chain
pub mod Flight
pub mod Laws
