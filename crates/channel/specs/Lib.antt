pub mod State
pub mod Outcome
pub mod Steps
pub mod Send
pub mod Receive
pub mod Opening
pub mod Operations
