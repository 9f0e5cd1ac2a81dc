pub mod CatalogRows
pub mod Tables
pub mod Stating
