pub mod State
pub mod Memory
pub mod Faults
pub mod Effect
pub mod Serial
pub mod Chain
pub mod Laws
