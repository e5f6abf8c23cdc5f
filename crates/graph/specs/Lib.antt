pub mod LastOf
pub mod Net
pub mod Refusals
pub mod Calls
pub mod Of
pub mod Walks
pub mod Tables
pub mod Outgoing
