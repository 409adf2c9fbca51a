pub mod Chains
pub mod LookNeeds
pub mod Opened
pub mod Sent
pub mod Taken
