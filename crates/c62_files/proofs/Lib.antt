mod Pieces
mod Readings
mod Growing
mod Parting
pub mod WrittenFiles
