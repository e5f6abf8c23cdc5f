pub mod State
pub mod Calls
pub mod Of
pub mod Reading
pub mod Intake
pub mod Examples
