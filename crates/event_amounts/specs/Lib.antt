pub mod Records
pub mod Gathered
