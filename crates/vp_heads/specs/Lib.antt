pub mod Heads
pub mod HeadReading
