pub mod Cells
pub mod CellReading
pub mod CellLaws
