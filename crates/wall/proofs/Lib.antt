pub mod Freed
pub mod Records
pub mod Sendings
