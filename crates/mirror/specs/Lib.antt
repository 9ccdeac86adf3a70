pub mod Accounts
pub mod Args
pub mod Calls
pub mod Site
