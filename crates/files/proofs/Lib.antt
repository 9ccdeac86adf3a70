pub mod NameLaws
pub mod WordsLaws
pub mod BackLaws
