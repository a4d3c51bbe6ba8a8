pub mod Sentence
pub mod Near
pub mod Picture
pub mod Topic
pub mod Placed
