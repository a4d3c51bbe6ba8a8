pub mod Common
pub mod RegSets
