pub mod Answers
pub mod Reward
pub mod Changes
