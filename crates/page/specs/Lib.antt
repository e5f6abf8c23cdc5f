pub mod Text
pub mod Pages
pub mod Replies
pub mod Examples
