use Rattle.std.proofs.Common.{false, refl}
use Rattle.mg_reading.specs.ImageView.{pages_in}
use Rattle.mg_image.specs.Tables.{Has}
use Rattle.mg_reading.proofs.CellLemmas.{data_cells, data_lawful}
use Rattle.mg_reading.proofs.RefusalLemmas.{memory_refuses}
use Rattle.mg_reading.proofs.versions.cell_at.Goals as goal

pub slot_cell-requires-clause-lawful : goal.slot_cell-requires-clause-lawful
slot_cell-requires-clause-lawful c = rw c.page.ensures.page
    (data_lawful false c.args.image.now.size (pages_in c.args.image.now) c.args.owner 0
    c.args.data_pages.now c.args.x.page.0 c.requires (c.if-not-has_page.ensures.0 refl))

pub slot_cell-requires-clause-cells : goal.slot_cell-requires-clause-cells
slot_cell-requires-clause-cells c = rw c.page.ensures.page
    (data_cells c.args.image.now.size (pages_in c.args.image.now) c.args.owner 0
    c.args.data_pages.now c.args.x.page.0 c.requires (c.if-not-has_page.ensures.0 refl))

pub returns-clause-broken : goal.returns-clause-broken
returns-clause-broken c = memory_refuses (Has c.args.data_pages.now c.args.x.page.0)
    c.slot_cell.result c.slot_cell.ensures.memory
