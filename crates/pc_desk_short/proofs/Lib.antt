pub mod Claims
pub mod Clashing
pub mod Impossible
pub mod MemberLines
pub mod Served
pub mod Weights
