pub mod Checks
pub mod RunFolds
