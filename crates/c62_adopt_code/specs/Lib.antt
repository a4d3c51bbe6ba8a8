pub mod Statement
pub mod Quote
pub mod Role
pub mod Way
pub mod Code
pub mod FaultText
pub mod Told
pub mod Laws
