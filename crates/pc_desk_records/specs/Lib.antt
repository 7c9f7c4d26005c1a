pub mod Beginnings
pub mod RowTexts
pub mod SchemaTexts
pub mod Shown
