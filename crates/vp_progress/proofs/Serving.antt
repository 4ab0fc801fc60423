-- A client is served: the rows that its calls take, the worlds in which its transaction is the only one that goes on, and how it commits.
pub mod Rows
pub mod Answers
pub mod Parts
pub mod Sites
pub mod Leading
pub mod Worlds
pub mod Waiting
pub mod Operations
pub mod Commits
pub mod Begun
pub mod Served
pub mod Among
