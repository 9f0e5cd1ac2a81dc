use Rattle.mg_exec.proofs.CreateLemmas.{table_leaves, table_quiet}
use Rattle.mg_exec.proofs.ProgressLemmas.{turned_at_end}
use Rattle.mg_exec.proofs.creating.retry.Goals as goal

pub returns-clause-retries : goal.returns-clause-retries
returns-clause-retries g c = λ o h stands. record {
  result = c.make_table-wrote.result;
  stands_so = c.turned_with.ensures;
  makes = c.make_table-wrote.ensures.makes o h stands;
}

pub returns-clause-behind : goal.returns-clause-behind
returns-clause-behind g c =
    turned_at_end c.args.table c.make_table-wrote.result c.turned_with.result c.turned_with.ensures

pub returns-clause-leaves : goal.returns-clause-leaves
returns-clause-leaves g c =
    table_leaves g.R.Records.meaning c.args.r.now c.make_table-wrote.new.r c.args.t.0 c.args.table
    c.make_table-wrote.result c.turned_with.result c.turned_with.ensures c.requires.ready
    c.make_table-wrote.ensures.frames c.make_table-wrote.ensures.quiet

pub returns-clause-quiet : goal.returns-clause-quiet
returns-clause-quiet g c =
    table_quiet g.R.Records.meaning c.args.r.now c.make_table-wrote.new.r c.args.t.0 c.args.table
    c.make_table-wrote.result c.turned_with.result c.turned_with.ensures c.make_table-wrote.ensures.quiet
