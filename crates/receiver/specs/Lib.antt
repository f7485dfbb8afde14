pub mod Slots
pub mod Tables
pub mod Replies
pub mod Parts
pub mod Laws
