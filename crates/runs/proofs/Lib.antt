pub mod Offsets
pub mod Ring
pub mod Straight
pub mod TwoRuns
