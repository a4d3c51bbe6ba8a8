pub mod Visits
pub mod Table
pub mod Flights
