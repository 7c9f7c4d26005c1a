pub mod Blocks
pub mod Divided
pub mod Entries
pub mod Left
pub mod Questions
pub mod Rounded
pub mod Values
