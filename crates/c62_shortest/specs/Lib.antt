pub mod Units
pub mod Shortest
