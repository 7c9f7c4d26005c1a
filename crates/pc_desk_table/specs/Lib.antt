pub mod Names
pub mod Table
pub mod Reading
pub mod Json
pub mod Remarks
pub mod Lines
pub mod Sheets
pub mod Texts
