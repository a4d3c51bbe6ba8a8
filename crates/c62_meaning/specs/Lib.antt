pub mod Landing
pub mod Packet
pub mod Meaning
pub mod Laws
pub mod Landed
pub mod Instances
pub mod Alike
pub mod Cut
