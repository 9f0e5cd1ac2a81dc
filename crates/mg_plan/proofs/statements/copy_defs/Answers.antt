use Rattle.std.proofs.lemmas.Result.{IfOk-from_err}
use Rattle.mg_plan.proofs.StepLemmas.{copied, copied_all}
use Rattle.mg_plan.proofs.statements.copy_defs.Goals as goal

pub loop-d-preserved : goal.loop-d-preserved
loop-d-preserved c =
    copied c.args.defs.now c.loop-d.d-index c.d-item.result _ _ c.loop-d-test.true c.d-item.is
    c.loop-d.invariant c.in_ok-push.ensures.items

pub loop-d-init : goal.loop-d-init
loop-d-init c = c.new-copied.ensures.items

pub returns : goal.returns
returns c =
    copied_all c.args.defs.now c.loop-d.d-index _ c.loop-d-test.false
    c.loop-d.invariant

pub returns-in_err-push : goal.returns-in_err-push
returns-in_err-push c = IfOk-from_err c.from_residual.result _ c.from_residual.ensures.0
