pub mod Asking
pub mod Done
pub mod Newest
