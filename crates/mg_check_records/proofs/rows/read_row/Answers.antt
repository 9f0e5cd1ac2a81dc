use Rattle.mg_check_records.proofs.RowLemmas.{coded_result}
use Rattle.mg_check_records.proofs.rows.read_row.Goals as goal

pub returns : goal.returns
returns c = coded_result c.args.table.now c.args.x c.args.version.now c.coded_row.result
    c.if-version-ne1.false c.if-version.false c.coded_row.ensures
