pub mod Directive
pub mod FaultName
pub mod Plain
pub mod Line
pub mod Laws
