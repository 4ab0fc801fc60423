pub mod Found
pub mod Calls
pub mod Asked
pub mod Conversations
mod Shaped
mod Given
