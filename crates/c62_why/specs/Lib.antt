pub mod Held
pub mod Taken
pub mod Why
pub mod Laws
