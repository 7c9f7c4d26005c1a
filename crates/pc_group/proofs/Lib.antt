pub mod Areas
mod Folded
pub mod FormedBlocks
mod FormedCuts
mod GroupNames
mod Inner
mod Narrowed
mod NeededCuts
mod Owing
mod SameNodes
mod Telling
