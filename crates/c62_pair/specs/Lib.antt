pub mod RegSet
pub mod Writes
pub mod Covered
pub mod Conditions
pub mod Uses
pub mod Numbers
