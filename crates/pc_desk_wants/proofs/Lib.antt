pub mod Chars
pub mod TextsLeft
pub mod Laws
pub mod Signs
pub mod Telling
