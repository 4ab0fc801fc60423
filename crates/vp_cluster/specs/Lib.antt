pub mod Hosts
pub mod Letter
pub mod Ports
pub mod Stops
pub mod Letters
pub mod Nodes
pub mod Ran
pub mod Clusters
