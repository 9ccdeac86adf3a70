pub mod Advance
pub mod Stake
pub mod Rows
pub mod Plan
