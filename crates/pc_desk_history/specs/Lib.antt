pub mod Draft
pub mod Laws
pub mod Periods
pub mod Widening
