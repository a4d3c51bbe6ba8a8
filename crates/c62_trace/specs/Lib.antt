pub mod Event
pub mod Line
pub mod Stream
pub mod Laws
pub mod Written
