pub mod Answers
pub mod Inputs
pub mod Meaning
pub mod Outcome
pub mod Reports
pub mod Replies
pub mod Said
