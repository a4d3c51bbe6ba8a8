pub mod Telling
pub mod Shown
pub mod Events
pub mod Once
pub mod Told
