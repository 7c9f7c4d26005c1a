pub mod Fields
pub mod Lines
pub mod Plain
pub mod Unread
