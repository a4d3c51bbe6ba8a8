pub mod Blocks
pub mod Breach
pub mod Judged
pub mod Packing
pub mod Answer
pub mod FaultText
pub mod Laws
pub mod Cycles
