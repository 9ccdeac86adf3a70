pub mod KeyLaws
pub mod StateLaws
pub mod PositionsLaws
pub mod NinesLaws
pub mod Examples
pub mod Fixed
