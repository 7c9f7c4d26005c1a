pub mod Closing
pub mod Limiting
pub mod Lines
