pub mod Sort
pub mod Shape
pub mod Place
