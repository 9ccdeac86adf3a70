pub mod Events
pub mod Sides
pub mod Rows
pub mod Head
