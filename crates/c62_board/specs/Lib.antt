pub mod Who
pub mod Withdrawal
pub mod Ejection
pub mod Turn
pub mod Replay
pub mod State
pub mod View
pub mod Laws
