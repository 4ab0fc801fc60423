pub mod Scripts
pub mod Walking
pub mod Telling
pub mod Ran
pub mod Stepping
pub mod Claims
pub mod Worked
