pub mod Columns
pub mod Halting
pub mod Names
pub mod Telling
pub mod WholeDomain
pub mod PlainFields
pub mod PlainText
