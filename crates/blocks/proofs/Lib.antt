pub mod Fills
pub mod Places
pub mod Clearings
pub mod Storings
pub mod Copies
pub mod Inspections
pub mod Chunks
