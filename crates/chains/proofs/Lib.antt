pub mod Lists
pub mod Links
pub mod Bests
pub mod Every
pub mod Orders
pub mod Places
pub mod Greatest
pub mod Reached
