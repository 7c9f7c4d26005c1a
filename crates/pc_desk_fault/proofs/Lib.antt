pub mod Feeds
pub mod FirstBlank
pub mod Meaning
pub mod NthLines
pub mod Telling
pub mod Utf8
