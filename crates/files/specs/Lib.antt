pub mod Words
pub mod Name
pub mod Answers
