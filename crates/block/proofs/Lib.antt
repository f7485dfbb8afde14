pub mod Lookups
pub mod Checks
pub mod Octets
pub mod Layouts
pub mod Places
pub mod Changes
