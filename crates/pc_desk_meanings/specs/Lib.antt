pub mod Atoms
pub mod Columns
pub mod Meanings
pub mod Pieces
pub mod Words
