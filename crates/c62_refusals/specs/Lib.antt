pub mod Given
pub mod Opening
pub mod Placing
pub mod Telling
pub mod Texts
pub mod Twice
