pub mod Ring
pub mod Numbers
pub mod AtOnce
pub mod Private
