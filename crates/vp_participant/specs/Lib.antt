pub mod Refusals
pub mod Doubts
pub mod Ballots
