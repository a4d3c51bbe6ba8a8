pub mod Room
pub mod Chain
pub mod Crowd
pub mod Raised
pub mod Order
pub mod Steps
pub mod Laws
