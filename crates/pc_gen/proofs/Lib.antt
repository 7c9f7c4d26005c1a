pub mod Accepted
pub mod DrawnConstraints
pub mod DrawnRows
pub mod Lists
pub mod Possible
pub mod Stepping
pub mod Tables
