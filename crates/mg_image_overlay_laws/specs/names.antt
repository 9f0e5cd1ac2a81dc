-- Rows of the catalog that name tables, and whose a table is by them.
pub mod Creating
pub mod Fewer
pub mod JoinedRows
pub mod MadeRows
pub mod Making
pub mod NamedTables
pub mod NotThere
pub mod Whose
