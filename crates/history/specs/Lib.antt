pub mod Calls
pub mod Stays
pub mod Answers
pub mod Orders
