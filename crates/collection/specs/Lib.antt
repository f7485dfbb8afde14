pub mod Fragments
pub mod Kept
pub mod Sent
