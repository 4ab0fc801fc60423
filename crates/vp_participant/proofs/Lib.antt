pub mod Ended
mod Named
