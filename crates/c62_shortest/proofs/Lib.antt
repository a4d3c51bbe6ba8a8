pub mod SameUnits
pub mod EitherSide
pub mod Schedules
pub mod Lengths
