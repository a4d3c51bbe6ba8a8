pub mod SameIssues
pub mod EitherSide
pub mod SpotIssues
pub mod ListedBranch
pub mod Arranging
pub mod NumberedSpots
pub mod Headlines
