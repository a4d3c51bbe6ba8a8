pub mod Cuts
pub mod Counted
pub mod Limited
pub mod Somewhere
