pub mod Logged
pub mod Lookup
