pub mod Payment
pub mod Slash
