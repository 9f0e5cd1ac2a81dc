use Rattle.mg_table_making.specs.Keys.{FailsColumnKey, column_spoken, column_unread}
use Rattle.mg_table_making.proofs.CoreLemmas.{refused_on}
use Rattle.mg_table_making.proofs.KeyLemmas.{some_spoken}
use Rattle.mg_table_making.proofs.keys.free_column.Goals as goal

pub returns-in_err-found-clause-free : goal.returns-in_err-found-clause-free
returns-in_err-found-clause-free g c = refused_on c.from_residual.result c.in_err-found.field-0.0 _
    (FailsColumnKey g.D.Disk.meaning c.args.core.now c.read_key.new.core c.args.t c.args.place c.args.count c.args.key.now)
    c.from_residual.ensures.0 c.from_residual.ensures.1 (column_unread c.in_err-found.ensures.reads)

pub returns-clause-free : goal.returns-clause-free
returns-clause-free g c = column_spoken c.read_key.new.core c.in_ok-found.found c.in_ok-found.ensures.reads
    (some_spoken c.in_ok-found.found.rec c.is_none.result c.is_none.ensures c.if-is_none.false)
    c.out_of_place.ensures.tells
