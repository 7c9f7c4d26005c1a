pub mod Apart
pub mod Decomposed
pub mod Extremes
pub mod Gathered
pub mod Lowest
pub mod Picks
pub mod Spans
