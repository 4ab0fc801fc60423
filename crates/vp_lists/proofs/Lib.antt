pub mod Places
pub mod Found
pub mod Named
pub mod Halving
