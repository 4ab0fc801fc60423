-- Well-formed sites: every step keeps them so, and so does every schedule. It uses Lists, Journal, Moves and Worlds.
pub mod Numbers
pub mod Versions
pub mod Sizes
pub mod Doubts
pub mod Catalogue
pub mod Live
pub mod Locks
pub mod Moves
pub mod Log
pub mod Views
pub mod Fold
pub mod Parts
pub mod Coordinator
pub mod Steps
pub mod Frames
pub mod Worlds
