pub mod Taking
pub mod Causes
pub mod Keeping
pub mod Nodes
