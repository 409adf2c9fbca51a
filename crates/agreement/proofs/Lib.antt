pub mod VeryDwords
pub mod Images
pub mod Entries
pub mod Seeks
pub mod Directories
