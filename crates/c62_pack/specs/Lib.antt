pub mod EitherSide
pub mod Packets
pub mod Headline
