pub mod Followed
pub mod Holding
pub mod Remains
