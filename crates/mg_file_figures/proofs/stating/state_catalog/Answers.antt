use Rattle.std.proofs.Common.{List, subst, sym, ℕ}
use Rattle.mg_base.specs.Image.{page_at}
use Rattle.mg_check_tables.specs.Seats.{AreDataPages}
use Rattle.mg_file_figures.specs.CatalogRows.{AreRowsOf, ShowsRows, committed_at}
use Rattle.mg_file_figures.proofs.DamageLemmas.{catalog_field}
use Rattle.mg_file_figures.proofs.StatingLemmas.{catalog_none, catalog_shows, catalog_small, catalog_stops, catalog_wanted, stop_stated}
use Rattle.mg_file_figures.proofs.stating.state_catalog.Goals as goal

pub data_pages_of-requires-clause-none : goal.data_pages_of-requires-clause-none
data_pages_of-requires-clause-none c = catalog_none c.args.size c.args.pages.now c.first_pointer-first.result
    c.first_pointer-first.ensures c.requires.none

pub catalog_rows-requires-clause-columns : goal.catalog_rows-requires-clause-columns
catalog_rows-requires-clause-columns c =
    catalog_small c.in_ok-table.table c.first_pointer-first.result c.in_ok-table.ensures

pub catalog_rows-requires-clause-tested : goal.catalog_rows-requires-clause-tested
catalog_rows-requires-clause-tested c = catalog_wanted c.args.size c.args.pages.now c.in_ok-table.table
    c.first_pointer-first.result c.as_slice-numbers.result.now c.in_ok-table.ensures
    c.first_pointer-first.ensures c.requires.rungs.catalog (subst (λ (ns : List ℕ). AreDataPages (page_at c.args.size c.args.pages.now)
    c.first_pointer-first.result ns) (sym c.as_slice-numbers.ensures.value) c.in_ok-data_pages.ensures)

pub state_rows-requires-clause-shows : goal.state_rows-requires-clause-shows
state_rows-requires-clause-shows c = subst (ShowsRows c.args.size (page_at c.args.size c.args.pages.now))
    (sym c.as_slice.ensures.value) (catalog_shows c.args.size c.args.pages.now c.in_ok-table.table
    c.first_pointer-first.result c.as_slice-numbers.result.now c.in-Shown.rows.items c.in_ok-table.ensures
    c.first_pointer-first.ensures (subst (λ (ns : List ℕ). AreDataPages (page_at c.args.size c.args.pages.now)
    c.first_pointer-first.result ns) (sym c.as_slice-numbers.ensures.value) c.in_ok-data_pages.ensures)
    (subst (AreRowsOf (page_at c.args.size c.args.pages.now) c.in_ok-table.table c.as_slice-numbers.result.now
    (committed_at c.args.size (page_at c.args.size c.args.pages.now))) c.in-Shown.is c.in_ok-rows.ensures))

pub returns-in-Found-clause-stated : goal.returns-in-Found-clause-stated
returns-in-Found-clause-stated c = stop_stated c.args.size c.args.pages.now c.in-Found.finding c.requires.none
    (catalog_stops c.args.size c.args.pages.now c.in_ok-table.table c.first_pointer-first.result
    c.as_slice-numbers.result.now c.in_ok-rows.field-0 c.in-Found.finding
    c.in_ok-table.ensures c.first_pointer-first.ensures (subst (λ (ns : List ℕ). AreDataPages (page_at c.args.size c.args.pages.now)
    c.first_pointer-first.result ns) (sym c.as_slice-numbers.ensures.value) c.in_ok-data_pages.ensures)
    c.in_ok-rows.ensures c.in-Found.is)

pub returns-in-Found-clause-damage : goal.returns-in-Found-clause-damage
returns-in-Found-clause-damage c = catalog_field c.args.size (page_at c.args.size c.args.pages.now)
    c.in-Found.finding
    (catalog_stops c.args.size c.args.pages.now c.in_ok-table.table c.first_pointer-first.result
    c.as_slice-numbers.result.now c.in_ok-rows.field-0 c.in-Found.finding
    c.in_ok-table.ensures c.first_pointer-first.ensures (subst (λ (ns : List ℕ). AreDataPages (page_at c.args.size c.args.pages.now)
    c.first_pointer-first.result ns) (sym c.as_slice-numbers.ensures.value) c.in_ok-data_pages.ensures)
    c.in_ok-rows.ensures c.in-Found.is)
