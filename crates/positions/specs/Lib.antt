pub mod Key
pub mod Positions
pub mod State
