pub mod Lines
pub mod PlainLines
pub mod PlainParts
pub mod Records
