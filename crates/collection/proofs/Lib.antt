pub mod Hearing
pub mod Pinning
pub mod Taking
pub mod Joining
pub mod Sending
