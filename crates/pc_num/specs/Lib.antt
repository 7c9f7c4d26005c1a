pub mod Put
pub mod Scaled
pub mod Spelling
pub mod Divisor
pub mod Fractions
pub mod Signs
