pub mod Words
pub mod Linted
pub mod Taught
pub mod Faulted
pub mod Apart
pub mod Setting
