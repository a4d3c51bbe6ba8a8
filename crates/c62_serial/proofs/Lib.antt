pub mod FaultLemmas
pub mod ChainLemmas
pub mod BranchLemmas
pub mod MemoryLemmas
pub mod PlaceLemmas
pub mod RegisterLemmas
pub mod MachineLemmas
pub mod ActionLemmas
