pub mod Finding
pub mod Folds
pub mod Groups
pub mod Plain
pub mod Record
pub mod RowFile
pub mod Stored
pub mod Told
