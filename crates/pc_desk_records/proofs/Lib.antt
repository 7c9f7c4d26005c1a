pub mod Begun
pub mod CsvBegins
pub mod Showing
