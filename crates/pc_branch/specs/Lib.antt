pub mod Ends
pub mod Grown
pub mod Licence
pub mod Outcome
pub mod Searching
pub mod Spelled
pub mod Steps
pub mod Visits
