pub mod Leading
pub mod Uniting
pub mod Paths
pub mod Least
pub mod Agreeing
pub mod Outcome
pub mod Viewing
