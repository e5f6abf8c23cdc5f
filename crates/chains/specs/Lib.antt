pub mod Lists
pub mod Chains
pub mod Figures
pub mod Sums
pub mod Reach
pub mod Links
