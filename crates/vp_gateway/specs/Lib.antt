pub mod Causes
pub mod Ends
pub mod Lines
pub mod Sessions
pub mod Opening
pub mod Answering
pub mod Served
pub mod Worked
