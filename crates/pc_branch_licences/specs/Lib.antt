pub mod Licensed
pub mod Picked
pub mod Pools
pub mod Searched
pub mod Shown
pub mod Totals
pub mod Wanted
