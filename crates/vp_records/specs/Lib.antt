pub mod Applying
pub mod Records
pub mod Batches
pub mod Kinds
pub mod Reading
pub mod Laws
pub mod Decided
pub mod ReadyWrites
