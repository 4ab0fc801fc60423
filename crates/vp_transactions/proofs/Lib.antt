pub mod Kept
pub mod Hands
pub mod Order
pub mod Waiting
