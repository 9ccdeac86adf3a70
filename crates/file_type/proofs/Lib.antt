pub mod PathLaws
pub mod ToldLaws
