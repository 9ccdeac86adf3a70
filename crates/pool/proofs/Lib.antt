pub mod AdvanceLaws
pub mod RewardLaws
pub mod PaidLaws
pub mod ChangeLaws
pub mod Fixed
