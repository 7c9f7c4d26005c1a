pub mod Besides
pub mod Conflicts
pub mod Core
pub mod Deleting
pub mod Deletion
pub mod Testing
pub mod Texts
