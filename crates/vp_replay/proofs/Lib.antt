pub mod Values
pub mod Contents
pub mod Replays
pub mod GeneratedCatalogue
pub mod Making
pub mod Shaped
pub mod Counting
pub mod Soaks
