pub mod SideLaws
pub mod SignedLaws
pub mod Fixed
