pub mod Faults
pub mod Walk
pub mod Laws
