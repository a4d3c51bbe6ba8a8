pub mod Marks
pub mod Met
pub mod Sentence
pub mod Touch
pub mod Visit
