pub mod Clauses
pub mod Counts
pub mod Fields
pub mod Listing
pub mod Tables
pub mod Truth
