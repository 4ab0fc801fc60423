pub mod Codes
pub mod Lines
pub mod Printing
pub mod Refused
