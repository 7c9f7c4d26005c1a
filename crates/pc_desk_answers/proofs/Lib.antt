mod Asked
mod Between
mod Dividing
mod LeftRows
mod Repeats
pub mod Shown
mod Under
