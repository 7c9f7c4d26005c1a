pub mod Back
pub mod Classes
pub mod Counting
pub mod Crossing
pub mod Kept
pub mod Members
pub mod Room
