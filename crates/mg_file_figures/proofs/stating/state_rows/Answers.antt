use Rattle.std.proofs.Common.{length, subst, sym}
use Rattle.mg_catalog.specs.ByKey.{by_key}
use Rattle.mg_catalog.specs.FirstBad.{IsFirstBad}
use Rattle.mg_model.specs.CatalogRules.{AreTables}
use Rattle.mg_file_figures.proofs.StatingLemmas.{err_told, names_tables, row_damage, row_stated}
use Rattle.mg_file_figures.proofs.stating.state_rows.Goals as goal

pub returns-in-Err-BadTable-clause-stated : goal.returns-in-Err-BadTable-clause-stated
returns-in-Err-BadTable-clause-stated c = row_stated c.args.size c.args.pages.now c.args.rows.now
    c.args.first c.in-Err-BadTable.at c.bad_row.result c.in-Err-BadTable.field-0 c.requires.none
    c.requires.shows c.requires.first c.in-Err-BadTable.field-0-is
    (err_told (IsFirstBad c.args.rows.now) c.tables_of.result c.in-Err-BadTable.field-0
    c.in-Err-BadTable.is c.tables_of.ensures.bad)
    (rw c.in-Err-BadTable.field-0-is at c.bad_row.ensures)

pub returns-in-Err-BadTable-clause-damage : goal.returns-in-Err-BadTable-clause-damage
returns-in-Err-BadTable-clause-damage c = row_damage c.args.size c.args.pages.now c.args.first
    c.in-Err-BadTable.at (length c.args.rows.now) c.bad_row.result (rw c.in-Err-BadTable.field-0-is at c.bad_row.ensures)

pub state_tables-requires-clause-names : goal.state_tables-requires-clause-names
state_tables-requires-clause-names c = names_tables c.args.size c.args.pages.now c.args.rows.now
    c.as_slice.result.now c.requires.none c.requires.shows
    (subst (AreTables (by_key c.args.rows.now)) (sym c.as_slice.ensures.value) c.in-Ok.ensures.tables)
