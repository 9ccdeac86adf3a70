pub mod Walk
pub mod Span
pub mod Walked
