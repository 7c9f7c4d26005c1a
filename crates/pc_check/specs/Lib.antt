pub mod Blocks
pub mod Premises
pub mod Seen
pub mod Totals
pub mod Verdicts
