pub mod Claims
pub mod Parts
pub mod Areas
pub mod Meaning
pub mod Files
pub mod Canonical
pub mod Holding
pub mod Quantiles
