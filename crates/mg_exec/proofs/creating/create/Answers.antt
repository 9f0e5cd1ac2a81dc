use Rattle.mg_exec.proofs.CreateLemmas.{table_leaves, table_quiet}
use Rattle.mg_exec.proofs.ProgressLemmas.{turned_at_end}
use Rattle.mg_exec.proofs.creating.create.Goals as goal

pub returns-clause-creates : goal.returns-clause-creates
returns-clause-creates g c = λ o h stands. record {
  result = c.mark_and_make-wrote.result;
  stands_so = c.turned_with.ensures;
  makes = c.mark_and_make-wrote.ensures.makes o h stands;
}

pub returns-clause-behind : goal.returns-clause-behind
returns-clause-behind g c =
    turned_at_end c.args.table c.mark_and_make-wrote.result c.turned_with.result c.turned_with.ensures

pub returns-clause-leaves : goal.returns-clause-leaves
returns-clause-leaves g c =
    table_leaves g.R.Records.meaning c.args.r.now c.mark_and_make-wrote.new.r c.args.t.0 c.args.table
    c.mark_and_make-wrote.result c.turned_with.result c.turned_with.ensures c.requires.ready
    c.mark_and_make-wrote.ensures.frames c.mark_and_make-wrote.ensures.quiet

pub returns-clause-quiet : goal.returns-clause-quiet
returns-clause-quiet g c =
    table_quiet g.R.Records.meaning c.args.r.now c.mark_and_make-wrote.new.r c.args.t.0 c.args.table
    c.mark_and_make-wrote.result c.turned_with.result c.turned_with.ensures c.mark_and_make-wrote.ensures.quiet
