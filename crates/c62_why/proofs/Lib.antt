pub mod Earlier
pub mod Latest
pub mod Uses
pub mod Holding
pub mod Whys
