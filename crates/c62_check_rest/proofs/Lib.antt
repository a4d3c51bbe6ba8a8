pub mod Naming
pub mod Issues
pub mod Lining
pub mod Standing
pub mod Serials
