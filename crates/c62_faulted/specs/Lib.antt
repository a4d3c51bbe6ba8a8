pub mod Faulted
pub mod Laws
pub mod Sentence
