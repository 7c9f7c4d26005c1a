pub mod Keeping
pub mod Loading
pub mod Outcome
pub mod Reads
pub mod Replies
pub mod Stops
pub mod Texts
pub mod Writing
