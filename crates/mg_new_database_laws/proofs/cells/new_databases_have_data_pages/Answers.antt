use Rattle.mg_new_database_laws.specs.CatalogCellLaws.{new_have_catalog}
use Rattle.mg_new_database_laws.specs.EmptyLaws.{new_are_empty}
use Rattle.mg_new_database_laws.proofs.cells.new_databases_have_data_pages.Goals as goal

pub returns-clause-catalog : goal.returns-clause-catalog
returns-clause-catalog c = new_have_catalog

pub returns-clause-empty : goal.returns-clause-empty
returns-clause-empty c = new_are_empty
