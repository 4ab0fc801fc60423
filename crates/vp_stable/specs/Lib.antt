pub mod Faults
pub mod Halves
pub mod Laws
pub mod Log
pub mod Moments
pub mod Scans
pub mod Stops
pub mod Writing
