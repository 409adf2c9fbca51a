pub mod Faults
pub mod Numbers
pub mod Runs
pub mod Files
pub mod Calls
pub mod Private
pub mod MailedHome
