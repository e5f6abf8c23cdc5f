pub mod Problems
pub mod Schedules
pub mod Rivals
pub mod Bounds
pub mod Partitions
pub mod Examples
