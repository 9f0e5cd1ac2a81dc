use Rattle.std.proofs.Common.{ap, map}
use Rattle.std.proofs.lemmas.Result.{IfOk-from_err}
use Rattle.mg_expr.specs.Trees.{Tree}
use Rattle.mg_statements.specs.Plain.{assign_of}
use Rattle.mg_plan.specs.Binding.{bound}
use Rattle.mg_plan.proofs.StepLemmas.{alike_twice, mapped_twice_all}
use Rattle.mg_plan.proofs.statements.bind_sets.Goals as goal

pub loop-set-preserved : goal.loop-set-preserved
loop-set-preserved c =
    alike_twice assign_of (λ set. (set.0, bound set.1 c.args.columns.now)) assign_of c.args.sets.now c.loop-set.set-index
    c.set-item.result _ _ _ c.loop-set-test.true c.set-item.is
    (ap (λ (t : Tree). (c.set-item.result.column, t)) c.in_ok-bind_expr.ensures) c.loop-set.invariant
    c.in_ok-push.ensures.items

pub loop-set-init : goal.loop-set-init
loop-set-init c = ap (map assign_of) c.new-bound.ensures.items

pub returns : goal.returns
returns c =
    mapped_twice_all (λ set. (set.0, bound set.1 c.args.columns.now)) assign_of c.args.sets.now
    c.loop-set.set-index _ c.loop-set-test.false
    c.loop-set.invariant

pub returns-in_err-bind_expr : goal.returns-in_err-bind_expr
returns-in_err-bind_expr c = IfOk-from_err c.from_residual.result _ c.from_residual.ensures.0

pub returns-in_err-push : goal.returns-in_err-push
returns-in_err-push c = IfOk-from_err c.from_residual-in_err-push.result _ c.from_residual-in_err-push.ensures.0
