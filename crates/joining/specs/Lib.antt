pub mod Unions
pub mod Tables
pub mod Pairs
pub mod Outcomes
pub mod Examples
