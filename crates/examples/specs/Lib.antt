pub mod Example
pub mod Inputs
pub mod Walls
pub mod Records
pub mod Table
