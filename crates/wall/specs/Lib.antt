pub mod Sent
pub mod Private
