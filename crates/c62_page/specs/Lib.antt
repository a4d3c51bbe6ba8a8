pub mod Text
pub mod Cells
pub mod Grid
pub mod Flight
pub mod Causes
pub mod Block
pub mod Page
pub mod Laws
