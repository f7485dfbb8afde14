pub mod Fills
pub mod Puttings
pub mod Clearings
