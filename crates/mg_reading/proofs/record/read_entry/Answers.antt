use Rattle.mg_reading.specs.ImageView.{pages_in}
use Rattle.mg_reading.specs.Readable.{HasEntry, HasVersion, HasVersionRow}
use Rattle.mg_reading.proofs.CellLemmas.{placed_at}
use Rattle.mg_reading.proofs.OneVersionLemmas.{entry_format, entry_row, entry_version}
use Rattle.mg_reading.specs.StandLaws.{table_at_one}
use Rattle.mg_reading.proofs.RefusalLemmas.{passed_on}
use Rattle.mg_reading.proofs.record.read_entry.Goals as goal

pub returns-clause-stored : goal.returns-clause-stored
returns-clause-stored c = record {
  placed = table_at_one c.args.table.now c.args.data_pages.now c.args.link.rec.page.0
      c.in_ok-version.ensures.version.placed;
  format = c.if-version-ne1.false;
  spelled = c.in_ok-row.ensures.row.spelled;
  storable = c.in_ok-row.ensures.row.storable;
  erased = c.in_ok-row.ensures.row.erased;
}

pub returns-clause-placed : goal.returns-clause-placed
returns-clause-placed c = placed_at c.args.image.now.size (pages_in c.args.image.now)
    c.args.table.now.pointer.0 c.args.data_pages.now c.args.link.rec c.in_ok-version.version
    c.requires.tested c.in_ok-version.ensures.version.placed c.in_ok-version.ensures.version.cell

pub returns-in_err-version-clause-broken : goal.returns-in_err-version-clause-broken
returns-in_err-version-clause-broken c = passed_on
    (HasVersion c.args.image.now c.args.data_pages.now c.args.link)
    (HasEntry c.args.coding c.args.image.now c.args.table.now c.args.data_pages.now c.args.link)
    (entry_version c.args.coding c.args.image.now c.args.table.now c.args.data_pages.now
    c.args.link)
    c.from_residual.result c.in_err-version.field-0.0 c.from_residual.ensures.1
    c.in_err-version.ensures.broken

pub returns-then-version-ne1-clause-broken : goal.returns-then-version-ne1-clause-broken
returns-then-version-ne1-clause-broken c = λ has. c.if-version-ne1.true (entry_format
    c.args.coding c.args.image.now c.args.table.now c.args.data_pages.now c.args.link
    c.in_ok-version.version c.in_ok-version.ensures.version has)

pub returns-in_err-row-clause-broken : goal.returns-in_err-row-clause-broken
returns-in_err-row-clause-broken c = passed_on
    (HasVersionRow c.args.coding c.args.table.now c.in_ok-version.version)
    (HasEntry c.args.coding c.args.image.now c.args.table.now c.args.data_pages.now c.args.link)
    (entry_row c.args.coding c.args.image.now c.args.table.now c.args.data_pages.now
    c.args.link c.in_ok-version.version c.in_ok-version.ensures.version)
    c.from_residual-in_err-row.result c.in_err-row.field-0.0 c.from_residual-in_err-row.ensures.1
    c.in_err-row.ensures.broken
