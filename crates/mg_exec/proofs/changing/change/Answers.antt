use Rattle.mg_exec.proofs.ChangeLemmas.{goes_behind, turned_leaves, turned_quiet}
use Rattle.mg_exec.proofs.changing.change.Goals as goal

pub returns-clause-changes : goal.returns-clause-changes
returns-clause-changes g c = λ o h stands. record {
  result = c.write_next-wrote.result;
  left = c.write_next-wrote.new.w;
  table = c.write_next-wrote.ensures.steps.table;
  stands_so = c.turned.ensures;
  writes = c.write_next-wrote.ensures.writes o h stands;
}

pub returns-clause-fewer : goal.returns-clause-fewer
returns-clause-fewer g c =
    goes_behind g.row.R-Place.Denot c.args.changing c.write_next-wrote.new.w c.write_next-wrote.result
    c.turned.result c.turned.ensures c.write_next-wrote.ensures.steps.fewer

pub returns-clause-leaves : goal.returns-clause-leaves
returns-clause-leaves g c =
    turned_leaves g.R.Records.meaning c.args.r.now c.write_next-wrote.new.r c.args.t.0
    c.args.changing.writes c.write_next-wrote.new.w c.args.changing.count c.write_next-wrote.result
    c.turned.result c.turned.ensures c.write_next-wrote.ensures.steps c.write_next-wrote.ensures.quiet

pub returns-clause-quiet : goal.returns-clause-quiet
returns-clause-quiet g c =
    turned_quiet g.R.Records.meaning c.args.r.now c.write_next-wrote.new.r c.args.t.0
    c.write_next-wrote.new.w c.args.changing.count c.write_next-wrote.result c.turned.result
    c.turned.ensures c.write_next-wrote.ensures.quiet
