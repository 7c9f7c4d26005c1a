pub mod Nested
pub mod Filled
pub mod Narrowed
pub mod Priced
pub mod Sized
pub mod Ordered
pub mod Few
