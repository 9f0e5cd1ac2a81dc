use Rattle.std.proofs.Common.{ap, map}
use Rattle.std.proofs.lemmas.Result.{IfOk-from_err}
use Rattle.mg_statements.specs.Plain.{total_of}
use Rattle.mg_plan.specs.Statements.{bound_total}
use Rattle.mg_plan.proofs.StepLemmas.{alike_twice, mapped_twice_all}
use Rattle.mg_plan.proofs.statements.bind_totals.Goals as goal

pub loop-total-preserved : goal.loop-total-preserved
loop-total-preserved c =
    alike_twice total_of (bound_total c.args.columns.now) total_of c.args.totals.now c.loop-total.total-index
    c.total-item.result _ _ _ c.loop-total-test.true c.total-item.is c.in_ok-bind_total.ensures c.loop-total.invariant
    c.in_ok-push.ensures.items

pub loop-total-init : goal.loop-total-init
loop-total-init c = ap (map total_of) c.new-bound.ensures.items

pub returns : goal.returns
returns c =
    mapped_twice_all (bound_total c.args.columns.now) total_of c.args.totals.now c.loop-total.total-index _
    c.loop-total-test.false
    c.loop-total.invariant

pub returns-in_err-bind_total : goal.returns-in_err-bind_total
returns-in_err-bind_total c = IfOk-from_err c.from_residual.result _ c.from_residual.ensures.0

pub returns-in_err-push : goal.returns-in_err-push
returns-in_err-push c = IfOk-from_err c.from_residual-in_err-push.result _ c.from_residual-in_err-push.ensures.0
