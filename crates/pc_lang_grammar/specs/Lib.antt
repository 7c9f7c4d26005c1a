pub mod Grammar
pub mod Parsing
pub mod Wants
pub mod Halts
