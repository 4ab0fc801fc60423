pub mod Copies
pub mod LentLines
