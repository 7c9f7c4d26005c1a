pub mod Draws
pub mod Folded
pub mod Generated
