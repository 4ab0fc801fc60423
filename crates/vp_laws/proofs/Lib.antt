-- Each folder uses only those above it, as the head of the file of its name says.
pub mod Lists
pub mod Journal
pub mod Moves
pub mod Table
pub mod Worlds
pub mod Shapes
pub mod Invariant
pub mod Keeping
pub mod Copies
pub mod Order
pub mod Replies
pub mod Words
pub mod Told
pub mod Routes
