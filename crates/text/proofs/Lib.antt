pub mod Fixed
pub mod HexLaws
pub mod KeyLaws
pub mod LaidLaws
pub mod WordsLaws
pub mod DecimalLaws
