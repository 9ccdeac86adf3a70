pub mod Key
pub mod Message
pub mod Lookup
pub mod Caps
