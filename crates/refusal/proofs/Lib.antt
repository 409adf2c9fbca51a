pub mod NotZero
pub mod Refused
pub mod OfNumber
