pub mod Endings
pub mod Inputs
pub mod Meaning
pub mod Outcome
pub mod Replies
pub mod Texts
