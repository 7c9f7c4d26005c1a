pub mod Average
pub mod Best
pub mod Fractional
pub mod Highest
pub mod Steps
