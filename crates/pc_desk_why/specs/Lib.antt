pub mod Bars
pub mod Explained
pub mod Scopes
pub mod Shown
pub mod Texts
