pub mod DocumentLines
pub mod Parts
pub mod Places
pub mod Reading
pub mod Spans
pub mod Statements
pub mod Told
