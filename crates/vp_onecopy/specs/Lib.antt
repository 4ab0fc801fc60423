pub mod Checking
pub mod History
pub mod Lines
pub mod Passing
pub mod Playing
pub mod Reading
pub mod Whole
