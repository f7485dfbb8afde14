pub mod Limits
pub mod Numbers
pub mod Refusals
pub mod Words
pub mod Prints
