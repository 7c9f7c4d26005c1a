pub mod ClashTexts
pub mod Clashes
pub mod ShortTexts
pub mod Shortage
