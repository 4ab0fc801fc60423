pub mod Taken
pub mod Faults
pub mod Kept
mod Revived
pub mod Turning
