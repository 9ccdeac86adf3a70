pub mod RecordLaws
pub mod GatherLaws
pub mod ItemLaws
pub mod NinesLaws
pub mod ReadLaws
pub mod Fixed
