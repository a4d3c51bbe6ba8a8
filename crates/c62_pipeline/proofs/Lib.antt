mod Told
mod Choosing
mod GivingUp
pub mod Lining
