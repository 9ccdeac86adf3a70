pub mod Bytes
pub mod Calls
pub mod Faults
pub mod Fields
pub mod Output
pub mod States
pub mod Values
