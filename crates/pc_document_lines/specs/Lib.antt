pub mod Kept
pub mod Kinds
pub mod Likely
pub mod NodeLines
pub mod Numbers
pub mod TokenLines
pub mod ValueLines
