pub mod Limits
pub mod Check
pub mod Blocks
pub mod Fields
pub mod Dumps
pub mod Changes
