pub mod Printing
pub mod Dumping
