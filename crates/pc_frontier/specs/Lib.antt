pub mod Boxes
pub mod Frontier
pub mod Inside
pub mod Rings
