pub mod Averages
pub mod Ends
pub mod Outermost
pub mod Sides
