pub mod Changed
pub mod GivenUp
pub mod Started
pub mod Moves
pub mod Limited
pub mod Least
pub mod Taking
