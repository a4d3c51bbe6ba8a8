pub mod Member
pub mod Packets
pub mod Laws
