pub mod FrontierSamples
pub mod Samples
pub mod ShortSamples
pub mod Wanting
