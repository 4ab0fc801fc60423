pub mod Shapes
pub mod Places
pub mod Sheets
pub mod Words
pub mod Steps
pub mod Style
pub mod Heads
pub mod Pictures
