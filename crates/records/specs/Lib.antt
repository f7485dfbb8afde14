pub mod Records
pub mod Visits
