use Rattle.std.proofs.Common.{refl}
use Rattle.std.proofs.lemmas.Result.{IfOk-from_err}
use Rattle.mg_statements.specs.Plain.{assign_of}
use Rattle.mg_plan.proofs.StepLemmas.{mapped_twice, mapped_twice_all}
use Rattle.mg_plan.proofs.statements.names_set.Goals as goal

pub loop-set-preserved : goal.loop-set-preserved
loop-set-preserved c =
    mapped_twice (λ set. set.0) assign_of c.args.sets.now c.loop-set.set-index c.set-item.result _ _ _
    c.loop-set-test.true c.set-item.is refl c.loop-set.invariant c.in_ok-push.ensures.items

pub loop-set-init : goal.loop-set-init
loop-set-init c = c.new-names.ensures.items

pub returns : goal.returns
returns c =
    mapped_twice_all (λ set. set.0) assign_of c.args.sets.now c.loop-set.set-index _ c.loop-set-test.false
    c.loop-set.invariant

pub returns-in_err-push : goal.returns-in_err-push
returns-in_err-push c = IfOk-from_err c.from_residual.result _ c.from_residual.ensures.0
