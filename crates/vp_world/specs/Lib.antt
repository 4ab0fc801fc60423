pub mod Asked
pub mod Places
pub mod Limits
pub mod Known
pub mod Steps
pub mod Heads
pub mod Lent
