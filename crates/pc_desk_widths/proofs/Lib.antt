mod Back
mod BlockRows
mod Sorting
mod TwoRanges
