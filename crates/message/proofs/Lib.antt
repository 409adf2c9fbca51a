pub mod Tests
pub mod Tiling
pub mod Types
pub mod Formed
pub mod Refenced
pub mod PackLaws
pub mod Agreement
pub mod Slices
