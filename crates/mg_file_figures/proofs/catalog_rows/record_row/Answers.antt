use Rattle.std.proofs.Common.{List, ap, ◌∙◌}
use Rattle.mg_base.specs.Image.{page_at}
use Rattle.mg_file_figures.specs.CatalogRows.{committed_at}
use Rattle.mg_file_figures.proofs.RowsLemmas.{record_shown, record_stopped}
use Rattle.mg_image.specs.Records.{shown}
use Rattle.mg_image.specs.declared.entry.Entry.{Entry}
use Rattle.mg_file_figures.proofs.catalog_rows.record_row.Goals as goal

pub returns-in-Some : goal.returns-in-Some
returns-in-Some c = record_stopped (page_at c.args.size c.args.pages.now) c.args.table.now
    c.args.data_pages.now c.args.size (committed_at c.args.size (page_at c.args.size c.args.pages.now))
    c.args.marks.now c.walk_record.new.marks c.args.p c.in_ok-newest.newest
    c.in_ok-walked.walked.entries.items c.in_ok-walked.walked.stopped c.in-Some.finding
    c.in_ok-newest.ensures c.in-Some.is c.in_ok-walked.ensures.walk

pub returns : goal.returns
returns c = record_shown (page_at c.args.size c.args.pages.now) c.args.table.now
    c.args.data_pages.now c.args.size (committed_at c.args.size (page_at c.args.size c.args.pages.now))
    c.args.marks.now c.walk_record.new.marks c.args.p c.in_ok-newest.newest
    c.in_ok-walked.walked.entries.items c.in_ok-walked.walked.stopped c.in_ok-row.row
    c.in_ok-newest.ensures c.in_default.is c.in_ok-walked.ensures.walk
    (c.in_ok-row.ensures ∙ ap (λ (es : List Entry). shown
    (committed_at c.args.size (page_at c.args.size c.args.pages.now)) es) c.as_slice.ensures.value)
    c.in_ok-walked.ensures.met c.in_ok-walked.ensures.len
