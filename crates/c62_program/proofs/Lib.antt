pub mod Taught
pub mod Failing
pub mod Writing
pub mod Calling
pub mod Dumps
pub mod Traced
pub mod BySet
pub mod Labelled
