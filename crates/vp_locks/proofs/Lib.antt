pub mod Asked
pub mod Held
pub mod InSlots
pub mod Indexes
pub mod Lists
pub mod Ordered
pub mod Within
