mod Numbers
mod Apps
mod Calls
mod Hyphens
mod Operands
mod Parsing
mod Pairs
pub mod Spelling
pub mod Texts
