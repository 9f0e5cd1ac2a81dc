use Rattle.mg_base.specs.Image.{page_at}
use Rattle.mg_file_figures.specs.CatalogRows.{committed_at}
use Rattle.mg_file_figures.proofs.RowsLemmas.{rows_begin, rows_end, rows_go_on, rows_placed, rows_stop}
use Rattle.mg_file_figures.proofs.ShownLemmas.{none_left}
use Rattle.mg_file_figures.proofs.catalog_rows.catalog_rows.Goals as goal

pub loop-p-init : goal.loop-p-init
loop-p-init c = rows_begin (page_at c.args.size c.args.pages.now) c.args.table.now c.args.data_pages.now
    c.args.size (committed_at c.args.size (page_at c.args.size c.args.pages.now))
    c.in_ok-records.records.items c.as_slice-rest.result.now c.in_ok-marks.marks c.new-rows.result.items
    c.as_slice-rest.ensures.value c.in_ok-records.ensures.records c.in_ok-records.ensures.placed
    c.new-rows.ensures.items c.in_ok-marks.ensures.met c.in_ok-marks.ensures.len

pub record_row-requires-clause-placed : goal.record_row-requires-clause-placed
record_row-requires-clause-placed c = rows_placed (page_at c.args.size c.args.pages.now) c.args.table.now
    c.args.data_pages.now c.args.size (committed_at c.args.size (page_at c.args.size c.args.pages.now))
    c.loop-p.rest.now c.in-Some.later.now c.in-Some.p.now c.loop-p.marks c.loop-p.rows.items
    c.loop-p.invariant c.in-Some.ensures.cases.0

pub record_row-requires-clause-marks : goal.record_row-requires-clause-marks
record_row-requires-clause-marks c = c.loop-p.invariant.long

pub returns-in-Stopped : goal.returns-in-Stopped
returns-in-Stopped c = rows_stop (page_at c.args.size c.args.pages.now) c.args.table.now
    c.args.data_pages.now c.args.size (committed_at c.args.size (page_at c.args.size c.args.pages.now))
    c.loop-p.rest.now c.in-Some.later.now c.in-Some.p.now c.loop-p.marks c.record_row.new.marks
    c.loop-p.rows.items c.in_ok-row.field-0 c.in-Stopped.finding c.loop-p.invariant
    c.in-Some.ensures.cases.0 c.in_ok-row.ensures c.in-Stopped.is

pub loop-p-preserved : goal.loop-p-preserved
loop-p-preserved c = rows_go_on (page_at c.args.size c.args.pages.now) c.args.table.now
    c.args.data_pages.now c.args.size (committed_at c.args.size (page_at c.args.size c.args.pages.now))
    c.loop-p.rest.now c.in-Some.later.now c.in-Some.p.now c.loop-p.marks c.record_row.new.marks
    c.loop-p.rows.items c.add_row.new.rows.items c.in_ok-row.field-0 c.in-Shown.row
    c.loop-p.invariant c.in-Some.ensures.cases.0 c.in_ok-row.ensures c.in-Shown.is
    c.in_ok-add_row.ensures

pub returns : goal.returns
returns c = rows_end (page_at c.args.size c.args.pages.now) c.args.table.now c.args.data_pages.now
    c.args.size (committed_at c.args.size (page_at c.args.size c.args.pages.now)) c.loop-p.rest.now
    c.loop-p.marks c.loop-p.rows.items c.loop-p.invariant (none_left c.loop-p.rest.now c.in_default.ensures.cases)
