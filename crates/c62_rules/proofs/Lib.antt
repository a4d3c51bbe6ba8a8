pub mod Exclusive
pub mod OneLanding
pub mod DisjointAccesses
pub mod Ranges
pub mod Parts
pub mod Lengths
pub mod Twins
pub mod ResourceUses
pub mod Users
pub mod Capacities
pub mod Places
mod Broken
