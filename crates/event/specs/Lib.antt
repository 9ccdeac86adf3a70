pub mod Eligible
pub mod Adjust
pub mod Event
