pub mod Versions
pub mod Values
pub mod Contents
pub mod Tables
pub mod Changes
pub mod Copies
pub mod Doubts
