pub mod StakeLaws
pub mod RowLaws
pub mod PlanLaws
pub mod EventsLaws
pub mod Fixed
