pub mod CellsLaws
pub mod RowsLaws
