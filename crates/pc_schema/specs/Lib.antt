pub mod SchemaFile
pub mod Domain
pub mod Plain
pub mod Told
