pub mod Bytes
pub mod Css
pub mod Cpd
pub mod Inside
pub mod Version
pub mod Figures
pub mod Private
