use Rattle.std.proofs.Common.{◌∙◌, ap, ℕ}
use Rattle.mg_base.specs.declared.damage.Field.TheVariants as fields
use Rattle.mg_check_records.proofs.RowLemmas.{row_told, run_told}
use Rattle.mg_check_records.specs.Walks.{at_cell}
use Rattle.mg_check_records.proofs.rows.coded_row.Goals as goal

pub returns-in-Err-BadRun : goal.returns-in-Err-BadRun
returns-in-Err-BadRun c = run_told c.args.shape.now.columns c.args.x c.args.version.now
    c.decode_row.result c.in-Err-BadRun.field-0 c.in-Err-BadRun.at c.len.result c.at_cell.result
    (rw c.as_slice.ensures at c.decode_row.ensures.err) c.in-Err-BadRun.is
    c.in-Err-BadRun.field-0-is (c.at_cell.ensures
    ∙ (ap (λ (n : ℕ). at_cell c.args.x fields.Run n c.wanted_of-wanted.result) c.from.ensures
    ∙ ap (λ (n : ℕ). at_cell c.args.x fields.Run c.in-Err-BadRun.at n) c.wanted_of-wanted.ensures))
    c.len.ensures

pub returns-in-Err-BadRow : goal.returns-in-Err-BadRow
returns-in-Err-BadRow c = row_told c.args.shape.now.columns c.args.x c.args.version.now
    c.decode_row.result c.in-Err-BadRow.field-0 c.in-Err-BadRow.at c.stored_len.result
    c.at_cell-in-Err-BadRow.result (rw c.as_slice.ensures at c.decode_row.ensures.err)
    c.in-Err-BadRow.is c.in-Err-BadRow.field-0-is (c.at_cell-in-Err-BadRow.ensures
    ∙ (ap (λ (n : ℕ). at_cell c.args.x fields.Row n c.wanted_of-wanted-in-Err-BadRow.result)
    c.from-in-Err-BadRow.ensures
    ∙ ap (λ (n : ℕ). at_cell c.args.x fields.Row c.in-Err-BadRow.at n)
    c.wanted_of-wanted-in-Err-BadRow.ensures))
    (rw c.as_slice-in-Err-BadRow.ensures at c.stored_len.ensures.len)
