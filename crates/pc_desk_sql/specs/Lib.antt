pub mod Claims
pub mod Holding
pub mod Readings
pub mod Spelled
pub mod Statement
pub mod Tests
pub mod Texts
pub mod Values
