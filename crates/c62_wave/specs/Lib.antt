pub mod Value
pub mod Signals
pub mod Dump
pub mod Head
pub mod Wave
pub mod Waves
pub mod Laws
