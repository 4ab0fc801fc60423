pub mod Refreshes
pub mod Voting
pub mod Asking
