pub mod Fields
pub mod Reading
pub mod Codes
pub mod Ranges
pub mod Decisions
