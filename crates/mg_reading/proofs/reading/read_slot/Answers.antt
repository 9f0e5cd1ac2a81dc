use Rattle.mg_image.specs.Records.{cells_of, newest_of}
use Rattle.mg_image.specs.Tables.{Has}
use Rattle.mg_reading.specs.ImageView.{pages_in}
use Rattle.mg_reading.specs.Readable.{HasRecord}
use Rattle.mg_reading.proofs.RefusalLemmas.{memory_alone, memory_on, passed_on}
use Rattle.mg_reading.proofs.reading.read_slot.Goals as goal

pub returns-in_err-cell-clause-broken : goal.returns-in_err-cell-clause-broken
returns-in_err-cell-clause-broken c = memory_on
    (HasRecord c.args.coding c.args.image.now c.args.table.now c.args.data_pages.now
    (newest_of c.args.p (cells_of (pages_in c.args.image.now) c.args.p)))
    c.from_residual.result c.in_err-cell.field-0.0 c.from_residual.ensures.1
    (memory_alone (Has c.args.data_pages.now c.args.p.page.0) c.requires.placed
    c.in_err-cell.field-0.0 c.in_err-cell.ensures.broken)

pub returns-in_err-entries-clause-broken : goal.returns-in_err-entries-clause-broken
returns-in_err-entries-clause-broken c = passed_on
    (HasRecord c.args.coding c.args.image.now c.args.table.now c.args.data_pages.now
    c.newest.result)
    (HasRecord c.args.coding c.args.image.now c.args.table.now c.args.data_pages.now
    (newest_of c.args.p (cells_of (pages_in c.args.image.now) c.args.p)))
    (λ has. rw (c.newest.ensures, c.in_ok-cell.ensures.cell) has)
    c.from_residual-in_err-entries.result c.in_err-entries.field-0.0
    c.from_residual-in_err-entries.ensures.1 c.in_err-entries.ensures.broken
