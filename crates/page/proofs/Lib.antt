pub mod Appending
pub mod Faults
