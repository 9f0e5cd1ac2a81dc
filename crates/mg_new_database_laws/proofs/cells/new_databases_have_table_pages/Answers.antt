use Rattle.mg_new_database_laws.specs.PageCellLaws.{new_have_tables}
use Rattle.mg_new_database_laws.proofs.cells.new_databases_have_table_pages.Goals as goal

pub returns : goal.returns
returns c = new_have_tables
