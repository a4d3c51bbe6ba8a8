pub mod Drawing
pub mod Pauses
