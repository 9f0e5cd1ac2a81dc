use Rattle.mg_catalog.specs.TableLaws.{no_tables, tables_once}
use Rattle.mg_catalog.proofs.laws.rows_name_tables.Goals as goal

pub returns-clause-once : goal.returns-clause-once
returns-clause-once c = tables_once

pub returns-clause-none : goal.returns-clause-none
returns-clause-none c = no_tables
