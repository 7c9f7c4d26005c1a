pub mod Boxes
pub mod Cuts
pub mod Sides
