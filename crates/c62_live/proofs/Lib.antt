pub mod Numbered
pub mod Counted
pub mod StillRead
pub mod LiveEach
