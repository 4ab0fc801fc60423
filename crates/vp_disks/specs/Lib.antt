pub mod Changes
pub mod Entries
pub mod NamedLogs
pub mod DiskLaws
pub mod Images
pub mod ImagedDisks
pub mod MemDisks
