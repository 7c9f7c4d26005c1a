pub mod Sound
pub mod Wide
