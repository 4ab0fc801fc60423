pub mod Torn
pub mod LogRecords
pub mod LeftImages
pub mod NamedPlaces
pub mod LaidLogs
pub mod Recorded
pub mod KeptChanges
