pub mod Limits
pub mod Parts
pub mod Steps
pub mod Props
pub mod Sounds
pub mod Cuts
