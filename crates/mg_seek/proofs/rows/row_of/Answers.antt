use Rattle.std.proofs.Common.{◌∙◌, ap, sym}
use Rattle.mg_image.specs.RecordRules.{columns_for}
use Rattle.mg_seek.proofs.RowLemmas.{row_given}
use Rattle.mg_seek.proofs.rows.row_of.Goals as goal

pub returns-then-placed : goal.returns-then-placed
returns-then-placed c = row_given c.args.table.now c.args.placed.now
    c.in_ok-shape.shape.columns c.coded_row.result
    (c.in_ok-shape.ensures.columns ∙ ap (columns_for c.args.table.now) (sym c.if-placed.true))
    c.coded_row.ensures.coded c.coded_row.ensures.storable c.coded_row.ensures.refused

pub returns : goal.returns
returns c = row_given c.args.table.now c.args.placed.now c.args.table.now.shape.columns c.coded_row-2.result
    (ap (columns_for c.args.table.now) (sym c.if-placed.false))
    c.coded_row-2.ensures.coded c.coded_row-2.ensures.storable c.coded_row-2.ensures.refused
