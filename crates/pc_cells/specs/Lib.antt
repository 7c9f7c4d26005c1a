pub mod Ends
pub mod Found
pub mod Gathering
pub mod Lowest
