use Rattle.std.proofs.Common.{ap, map}
use Rattle.std.proofs.lemmas.Result.{IfOk-from_err}
use Rattle.mg_expr.specs.Trees.{tree_of}
use Rattle.mg_plan.proofs.StepLemmas.{alike, mapped_all}
use Rattle.mg_plan.proofs.statements.copy_values.Goals as goal

pub loop-value-preserved : goal.loop-value-preserved
loop-value-preserved c =
    alike tree_of tree_of c.args.values.now c.loop-value.value-index c.value-item.result _ _ _ c.loop-value-test.true
    c.value-item.is c.in_ok-copy.ensures c.loop-value.invariant c.in_ok-push.ensures.items

pub loop-value-init : goal.loop-value-init
loop-value-init c = ap (map tree_of) c.new-copied.ensures.items

pub returns : goal.returns
returns c =
    mapped_all tree_of c.args.values.now c.loop-value.value-index _ c.loop-value-test.false
    c.loop-value.invariant

pub returns-in_err-copy : goal.returns-in_err-copy
returns-in_err-copy c = IfOk-from_err c.from_residual.result _ c.from_residual.ensures.0

pub returns-in_err-push : goal.returns-in_err-push
returns-in_err-push c = IfOk-from_err c.from_residual-in_err-push.result _ c.from_residual-in_err-push.ensures.0
