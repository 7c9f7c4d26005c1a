pub mod Conditions
pub mod Gathered
pub mod Settled
pub mod Sharing
pub mod Solved
