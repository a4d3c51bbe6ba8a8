pub mod HintLemmas
pub mod PlacedLemmas
