pub mod Replayed
pub mod Logged
pub mod Summary
pub mod Generated
pub mod Checked
