pub mod Asked
pub mod Chains
pub mod FaultFiles
pub mod Files
pub mod Keeping
pub mod ReadFiles
pub mod Written
mod Scripts
