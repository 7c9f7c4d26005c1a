pub mod Laws
pub mod Past
pub mod Texts
