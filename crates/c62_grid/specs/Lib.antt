pub mod Words
pub mod Widths
pub mod Landing
pub mod Share
pub mod Paths
pub mod Grid
