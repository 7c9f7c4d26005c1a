pub mod Joined
pub mod Kinds
pub mod Shown
pub mod Told
pub mod Wanted
