pub mod Limits
pub mod Cells
pub mod Steps
pub mod Props
pub mod Sounds
