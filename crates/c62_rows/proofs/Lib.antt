mod Packets
mod Tables
mod Halves
mod Worded
pub mod SoundLemmas
pub mod SmallLemmas
mod ReadLemmas
mod FinishLemmas
mod AddLemmas
pub mod Issuable
mod Ruled
mod Labelled
mod Finished
mod OneLine
mod OneAnswer
mod Rising
