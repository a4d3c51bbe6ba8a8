pub mod Schedules
mod Within
pub mod SideBySide
pub mod Answering
pub mod Given
pub mod Known
pub mod FirstLine
pub mod OneParting
pub mod TooLong
pub mod Checks
pub mod Verdicts
pub mod LoopVerdicts
pub mod LoopChecks
pub mod FlyingPart
pub mod Flights
pub mod Reached
pub mod Fronts
pub mod Whole
pub mod FrontAnswers
mod Statuses
mod Looping
pub mod Runs
pub mod WholeRuns
pub mod Telling
pub mod ReadBack
pub mod OneBoard
pub mod OneText
mod PackedSame
mod AdoptedBack
mod LateMessage
mod AdoptedRun
pub mod Bounds
mod WithMemory
mod Flown
pub mod Documented
pub mod RunsTold
pub mod RunsDocumented
