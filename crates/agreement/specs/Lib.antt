pub mod VeryDwords
pub mod Images
pub mod Directories
pub mod Demand2
