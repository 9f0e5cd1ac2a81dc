use Rattle.mg_base.specs.Image.{page_at}
use Rattle.mg_file_figures.specs.CatalogRows.{committed_at}
use Rattle.mg_file_figures.proofs.ShownLemmas.{none_left, shown_here, shown_later, shown_none}
use Rattle.mg_file_figures.proofs.shown.shown_row.Goals as goal

pub returns-then-is_committed : goal.returns-then-is_committed
returns-then-is_committed c = shown_here (committed_at c.args.size (page_at c.args.size c.args.pages.now))
    c.loop-entry.rest.now c.in-Some.older.now c.args.entries.now c.in-Some.entry.now
    c.is_committed.result c.row_of.result c.in-Some.ensures.cases.0 c.loop-entry.invariant
    c.is_committed.ensures c.if-is_committed.true c.row_of.ensures

pub loop-entry-preserved : goal.loop-entry-preserved
loop-entry-preserved c = shown_later (committed_at c.args.size (page_at c.args.size c.args.pages.now))
    c.loop-entry.rest.now c.in-Some.older.now c.args.entries.now c.in-Some.entry.now
    c.is_committed.result c.in-Some.ensures.cases.0 c.loop-entry.invariant c.is_committed.ensures
    c.if-is_committed.false

pub returns : goal.returns
returns c = shown_none (committed_at c.args.size (page_at c.args.size c.args.pages.now))
    c.loop-entry.rest.now c.args.entries.now (none_left c.loop-entry.rest.now c.in_default.ensures.cases) c.loop-entry.invariant
