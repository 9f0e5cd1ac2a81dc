pub mod CellSpelled
pub mod CellFronts
pub mod CellFaults
