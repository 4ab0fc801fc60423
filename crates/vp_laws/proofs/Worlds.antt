-- What the proofs see of a world, what an event changes in it, and the inductions over the events of a schedule. It uses Lists,
-- Moves and Table.
pub mod Scenes
pub mod Events
pub mod Sites
pub mod Occurs
pub mod Moments
