pub mod Live
pub mod Lives
pub mod Rows
pub mod Laws
