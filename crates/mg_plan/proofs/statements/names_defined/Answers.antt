use Rattle.std.proofs.Common.{refl}
use Rattle.std.proofs.lemmas.Result.{IfOk-from_err}
use Rattle.mg_plan.proofs.StepLemmas.{mapped, mapped_all}
use Rattle.mg_plan.proofs.statements.names_defined.Goals as goal

pub loop-d-preserved : goal.loop-d-preserved
loop-d-preserved c =
    mapped (λ d. d.name) c.args.defs.now c.loop-d.d-index c.d-item.result _ _ _ c.loop-d-test.true c.d-item.is refl
    c.loop-d.invariant c.in_ok-push.ensures.items

pub loop-d-init : goal.loop-d-init
loop-d-init c = c.new-names.ensures.items

pub returns : goal.returns
returns c =
    mapped_all (λ d. d.name) c.args.defs.now c.loop-d.d-index _ c.loop-d-test.false
    c.loop-d.invariant

pub returns-in_err-push : goal.returns-in_err-push
returns-in_err-push c = IfOk-from_err c.from_residual.result _ c.from_residual.ensures.0
