pub mod AfterStop
pub mod Left
pub mod RanStopped
pub mod Singles
