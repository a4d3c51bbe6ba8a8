pub mod Text
pub mod Block
pub mod Program
pub mod Jump
pub mod Walk
pub mod Reading
pub mod Laws
