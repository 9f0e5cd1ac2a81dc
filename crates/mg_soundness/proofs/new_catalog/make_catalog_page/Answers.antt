use Rattle.std.proofs.Common.{◌∙◌, ap, arith, length}
use Rattle.mg_base.specs.Fields.{length-new_page}
use Rattle.mg_soundness.proofs.NewCatalogLemmas.{only_page, page_fits, page_made}
use Rattle.mg_soundness.proofs.new_catalog.make_catalog_page.Goals as goal

pub put_cells-requires-clause-room : goal.put_cells-requires-clause-room
put_cells-requires-clause-room c =
    let len = ap length c.new_common.ensures ∙ length-new_page (length c.args.b.now) 4 5 3 0 in
    page_fits c.args.coding c.in_ok-cells.cells.items c.deref.result.now
    (length c.new_common.new.b) c.in_ok-cells.ensures c.deref.ensures.value
    (omega (arith, len, c.requires.least))

pub returns : goal.returns
returns c = only_page c.args.coding (length c.args.b.now) c.in_ok-cells.cells.items
    c.put_cells.new.b c.in_ok-cells.ensures (page_made (length c.args.b.now) c.new_common.new.b
    c.put_cells.new.b c.deref.result.now c.in_ok-cells.cells.items c.put_cells.ensures
    c.new_common.ensures c.deref.ensures.value)
