pub mod Messages
pub mod BothWays
pub mod Parts
pub mod Interface
pub mod Records
