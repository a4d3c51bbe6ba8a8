pub mod Window
pub mod Edge
pub mod Crowd
