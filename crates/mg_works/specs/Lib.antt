pub mod Works
pub mod WorksLaws
