pub mod Kept
pub mod Runs
pub mod Short
pub mod Spans
pub mod Stays
