pub mod Region
pub mod Relined
pub mod Told
pub mod Lines
pub mod Laws
