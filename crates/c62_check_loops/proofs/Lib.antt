pub mod Loops
pub mod Taken
pub mod Telling
pub mod Done
pub mod Constants
pub mod Granting
pub mod Readers
