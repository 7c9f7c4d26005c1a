pub mod Edited
pub mod HeldWell
pub mod Sessions
