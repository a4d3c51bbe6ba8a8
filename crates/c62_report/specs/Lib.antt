pub mod Report
pub mod Flight
pub mod Print
