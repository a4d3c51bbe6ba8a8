pub mod Order
pub mod Slots
pub mod Landed
pub mod Flying
pub mod CycleEnds
pub mod Running
pub mod Chains
pub mod AlikeChains
