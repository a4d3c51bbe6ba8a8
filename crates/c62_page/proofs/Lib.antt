pub mod Drawing
pub mod Parts
pub mod Shown
pub mod Owned
