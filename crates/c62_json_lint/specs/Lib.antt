pub mod Faults
pub mod Linted
pub mod Laws
