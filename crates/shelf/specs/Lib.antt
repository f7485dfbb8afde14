pub mod Sums
pub mod Pieces
pub mod Units
pub mod Stores
pub mod Memories
