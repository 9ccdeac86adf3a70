pub mod Calls
pub mod Demand
pub mod Letter
