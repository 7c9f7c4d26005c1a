pub mod Explained
pub mod Lines
pub mod Meanings
pub mod Queries
pub mod Scripts
pub mod Sentences
pub mod Texts
pub mod WholeFiles
