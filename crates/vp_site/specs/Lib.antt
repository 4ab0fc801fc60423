pub mod Refreshing
pub mod Requests
pub mod Ballots
pub mod Starting
pub mod Asking
