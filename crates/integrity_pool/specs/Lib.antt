pub mod Calls
pub mod Payment
pub mod Changes
