pub mod GoneOver
pub mod InsnWrites
pub mod AskingReasons
pub mod Reasons
