-- The invariant: for each part a record in the file of its name, with a line for each clause, and what follows from a part in one
-- world.
-- It uses Lists, Journal, Moves, Table and Worlds.
pub mod Views
pub mod Led
pub mod Below
pub mod Votes
pub mod Endings
pub mod Repeated
pub mod Ops
pub mod Lived
pub mod HasLeft
pub mod Dated
pub mod Held
pub mod Base
pub mod Order
pub mod OwnEnds
pub mod Names
pub mod Shares
pub mod LiveUses
pub mod Answers
pub mod Guards
pub mod Reads
pub mod Closed
pub mod Entered
pub mod Used
pub mod Listed
pub mod Barred
pub mod Bars
pub mod Reading
pub mod Settled
pub mod Copies
pub mod Refresh
pub mod Known
pub mod Invariant
