pub mod Words
pub mod Reading
pub mod Lists
pub mod Bytes
pub mod Refusals
pub mod RoundTrips
