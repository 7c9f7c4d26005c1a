pub mod Report
pub mod RunLines
pub mod Shown
pub mod Summary
pub mod Told
pub mod Units
