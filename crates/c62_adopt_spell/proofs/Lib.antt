mod Bits
mod BracketLemmas
mod LocalLemmas
mod SpacedLemmas
pub mod SpellLemmas
