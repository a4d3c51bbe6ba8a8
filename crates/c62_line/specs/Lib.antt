pub mod Operand
pub mod Mnemonic
pub mod Unit
pub mod Fault
pub mod Line
pub mod Laws
