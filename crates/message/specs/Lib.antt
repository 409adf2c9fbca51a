pub mod Fields
pub mod Types
pub mod Header
pub mod Packing
pub mod Agreement
