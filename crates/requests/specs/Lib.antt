pub mod Fence
pub mod Table
pub mod Calls
pub mod Opening
pub mod Words
pub mod Plan
pub mod Private
