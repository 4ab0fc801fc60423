pub mod Numbers
pub mod Evaluations
pub mod Told
pub mod Sessions
pub mod Walked
pub mod Playing
pub mod Begun
