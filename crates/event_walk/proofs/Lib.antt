pub mod WalkLaws
pub mod NewestLaws
pub mod RingWalk
pub mod SpanLaws
pub mod AmountLaws
pub mod Fixed
