pub mod Machine
pub mod Exit
pub mod Prints
pub mod Profile
pub mod Runs
pub mod Alike
pub mod AlikeRows
