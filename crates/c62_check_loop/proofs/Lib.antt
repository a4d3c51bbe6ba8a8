pub mod Relining
pub mod Sames
pub mod SameButs
pub mod Naming
