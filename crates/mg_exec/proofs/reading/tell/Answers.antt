use Rattle.std.proofs.Common.{Option, subst}
use Rattle.mg_expr.specs.declared.expr.Expr.{Expr}
use Rattle.mg_records.specs.Reading.{FindAdds}
use Rattle.mg_plan.specs.Plans.{filter_in}
use Rattle.mg_exec.proofs.ReadLemmas.{find_quiet}
use Rattle.mg_exec.proofs.reading.tell.Goals as goal

pub returns-clause-quiet : goal.returns-clause-quiet
returns-clause-quiet g c =
    find_quiet g.R.Records.meaning c.args.r.now c.found.new.self c.args.t c.args.table.now.name
    (filter_in c.args.s.now) c.args.rows.now c.found.result
    (subst (λ (filter : Option Expr). FindAdds g.R.Records.meaning c.args.r.now c.found.new.self c.args.t
    c.args.table.now.name filter c.args.rows.now c.found.result) c.filter_of.ensures c.found.ensures.adds)
    c.found.ensures.undamaged c.found.ensures.crash
