pub mod Heads
pub mod Headed
pub mod Cells
pub mod Printed
pub mod Stepping
pub mod Tabled
