pub mod Map
pub mod Lists
pub mod History
pub mod Matching
pub mod Mixed
pub mod Room
