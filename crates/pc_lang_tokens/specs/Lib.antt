pub mod Spelling
pub mod Lexing
pub mod Front
pub mod Texts
pub mod Places
