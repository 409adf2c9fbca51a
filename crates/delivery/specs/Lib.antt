pub mod Plain
pub mod Operations
pub mod Demand
pub mod HalfWhole
pub mod Loopback
