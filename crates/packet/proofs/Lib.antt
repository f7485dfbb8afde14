pub mod Headers
pub mod Flaws
pub mod Encodings
pub mod Readings
pub mod Values
pub mod Buffers
pub mod Writes
