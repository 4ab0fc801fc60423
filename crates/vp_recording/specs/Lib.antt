pub mod Faults
pub mod Hex
pub mod Recordings
pub mod Lines
pub mod Drafts
pub mod LineReading
pub mod Document
