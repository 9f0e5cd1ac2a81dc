use Rattle.std.proofs.lemmas.Result.{IfOk-from_err}
use Rattle.mg_plan.proofs.StepLemmas.{copied, copied_all}
use Rattle.mg_plan.proofs.statements.copy_names.Goals as goal

pub loop-name-preserved : goal.loop-name-preserved
loop-name-preserved c =
    copied c.args.names.now c.loop-name.name-index c.name-item.result _ _ c.loop-name-test.true c.name-item.is
    c.loop-name.invariant c.in_ok-push.ensures.items

pub loop-name-init : goal.loop-name-init
loop-name-init c = c.new-copied.ensures.items

pub returns : goal.returns
returns c =
    copied_all c.args.names.now c.loop-name.name-index _ c.loop-name-test.false
    c.loop-name.invariant

pub returns-in_err-push : goal.returns-in_err-push
returns-in_err-push c = IfOk-from_err c.from_residual.result _ c.from_residual.ensures.0
