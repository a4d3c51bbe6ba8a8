pub mod Lists
pub mod Texts
pub mod Times
pub mod Ages
pub mod Heads
pub mod Waves
pub mod Shown
