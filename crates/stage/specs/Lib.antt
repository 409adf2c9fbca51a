pub mod Dwords
pub mod Channels
pub mod Files
pub mod Messages
pub mod Walls
