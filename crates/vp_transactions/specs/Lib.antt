pub mod Slots
pub mod Ended
pub mod Order
pub mod Waiting
