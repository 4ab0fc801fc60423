pub mod Waiting
pub mod Queued
pub mod Marked
