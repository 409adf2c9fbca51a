pub mod InWords
pub mod Left
