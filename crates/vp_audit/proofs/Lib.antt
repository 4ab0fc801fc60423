pub mod Rows
pub mod Newest
pub mod Told
pub mod Walked
