pub mod TableBack
pub mod Shallow
pub mod LineFeed
pub mod JsonBack
pub mod Fitting
pub mod Enumerated
pub mod SheetBack
