pub mod Orders
pub mod Pieces
pub mod Shown
pub mod Texts
pub mod Tornado
pub mod Widths
