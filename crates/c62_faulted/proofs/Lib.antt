pub mod FirstLemmas
pub mod LineLemmas
mod Noting
mod Parting
