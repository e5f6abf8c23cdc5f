pub mod Answered
pub mod Pairs
pub mod Sameness
pub mod Worked
