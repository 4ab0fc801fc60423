pub mod Keeping
pub mod Posted
pub mod Queues
