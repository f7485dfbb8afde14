pub mod Limits
pub mod Packets
pub mod Datagrams
pub mod Fields
pub mod Writing
