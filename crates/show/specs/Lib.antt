pub mod Cells
pub mod Rows
