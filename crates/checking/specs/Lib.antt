pub mod Refusals
pub mod Questions
pub mod Jobs
pub mod Checking
pub mod Accepting
pub mod Examples
