pub mod Distant
