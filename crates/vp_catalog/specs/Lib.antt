pub mod Adding
pub mod Document
pub mod Entries
pub mod EntryReading
pub mod Majorities
pub mod Sites
