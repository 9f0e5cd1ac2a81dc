use Rattle.mg_seek.proofs.RowLemmas.{row_told, run_told}
use Rattle.mg_seek.proofs.rows.coded_row.Goals as goal

pub returns-in-Err-BadRun-clause-refused : goal.returns-in-Err-BadRun-clause-refused
returns-in-Err-BadRun-clause-refused c = run_told c.args.shape.now.columns c.args.placed.now
    c.decode_row.result c.in-Err-BadRun.field-0 c.in-Err-BadRun.at c.len-len.result c.body_damage.result
    (rw c.as_slice.ensures at c.decode_row.ensures.err) c.in-Err-BadRun.is c.in-Err-BadRun.field-0-is c.body_damage.ensures
    c.len-len.ensures

pub returns-in-Err-BadRow-clause-refused : goal.returns-in-Err-BadRow-clause-refused
returns-in-Err-BadRow-clause-refused c = row_told c.args.shape.now.columns c.args.placed.now
    c.decode_row.result c.in-Err-BadRow.field-0 c.in-Err-BadRow.at c.stored_len-len.result
    c.body_damage-in-Err-BadRow.result (rw c.as_slice.ensures at c.decode_row.ensures.err)
    c.in-Err-BadRow.is c.in-Err-BadRow.field-0-is c.body_damage-in-Err-BadRow.ensures
    (rw c.as_slice-in-Err-BadRow.ensures at c.stored_len-len.ensures)
