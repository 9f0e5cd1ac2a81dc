use Rattle.std.proofs.Common.{◌∙◌, ap, refl, sym, subst}
use Rattle.mg_check_records.proofs.RowLemmas.{deleted_found, deleted_told}
use Rattle.mg_check_records.proofs.rows.erased_row.Goals as goal

pub returns-in-Stopped : goal.returns-in-Stopped
returns-in-Stopped c = deleted_found c.args.table.now c.in_ok-shape.shape.columns c.args.x
    c.args.version.now c.in_ok-row.field-0 c.in-Stopped.finding c.requires.format
    c.in_ok-shape.ensures.columns c.requires.deleted c.in_ok-row.ensures c.in-Stopped.is

pub returns : goal.returns
returns c = deleted_told c.args.table.now c.in_ok-shape.shape.columns c.args.x c.args.version.now
    c.in_ok-row.field-0 c.in-Row.row c.in-Some.i c.stored_len-len.result c.at_cell.result
    c.requires.format c.in_ok-shape.ensures.columns c.requires.deleted c.in_ok-row.ensures
    c.in-Row.is (rw c.as_slice.ensures at c.in-Some.ensures)
    (rw c.as_slice-in-Some.ensures at c.stored_len-len.ensures.len) c.at_cell.ensures
