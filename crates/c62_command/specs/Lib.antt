pub mod CommandLine
pub mod Settings
pub mod Promises
pub mod Blamed
