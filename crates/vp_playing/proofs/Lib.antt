pub mod Seen
pub mod Turns
pub mod Stepping
