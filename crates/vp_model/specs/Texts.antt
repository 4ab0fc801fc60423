-- The texts of schedules, traces and histories, as lists of bytes.
pub mod Fields
pub mod Calls
pub mod Answers
pub mod Messages
pub mod Trace
pub mod History
pub mod Schedule
