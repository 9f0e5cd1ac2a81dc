use Rattle.mg_plain.proofs.IndexLemmas.{column_found, column_past}
use Rattle.mg_plain.proofs.plain.indexed.index_column.Goals as goal

pub returns-in-Some : goal.returns-in-Some
returns-in-Some c = column_found c.args.indexes.now c.args.place c.in-Some.index.now c.in-Some.ensures.lookup.0
    c.in-Some.ensures.lookup.1

pub returns-in-None : goal.returns-in-None
returns-in-None c = column_past c.args.indexes.now c.args.place c.in-None.ensures.lookup.0
