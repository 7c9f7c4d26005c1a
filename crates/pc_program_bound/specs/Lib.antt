pub mod Allocation
pub mod Bound
pub mod CellPrograms
pub mod Parts
pub mod Short
pub mod SplitTrees
pub mod Sums
pub mod Walk
