pub mod FrontierSamples
pub mod ShortSamples
pub mod Starting
