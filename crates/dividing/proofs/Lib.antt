pub mod Firsts
pub mod Steps
pub mod Meeting
pub mod Picking
pub mod Viewing
pub mod Stepping
pub mod Running
