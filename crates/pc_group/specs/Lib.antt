pub mod Answers
pub mod Scopes
pub mod Trees
pub mod Wanted
pub mod Written
