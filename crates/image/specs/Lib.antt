pub mod Layout
pub mod Seats
pub mod Changes
pub mod Pool
