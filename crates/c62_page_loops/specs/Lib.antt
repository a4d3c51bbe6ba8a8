pub mod Kernel
pub mod Text
pub mod Page
pub mod Laws
