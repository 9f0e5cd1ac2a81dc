pub mod CatalogRung
