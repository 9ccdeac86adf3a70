pub mod KeyLaws
pub mod NumberLaws
pub mod RowLaws
pub mod LookupLaws
pub mod MessageLaws
pub mod Fixed
