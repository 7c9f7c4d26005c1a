pub mod Beside
pub mod Opened
pub mod Openings
pub mod Shown
pub mod Trials
pub mod Written
