pub mod Most
pub mod Listed
pub mod Refusals
pub mod Reported
pub mod Values
pub mod Strict
pub mod Meets
pub mod Asked
