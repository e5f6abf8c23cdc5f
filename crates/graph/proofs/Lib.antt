pub mod LastOfs
pub mod Threads
pub mod Sounds
pub mod Seek
pub mod Walks
pub mod Tables
pub mod Processing
pub mod Outgoing
