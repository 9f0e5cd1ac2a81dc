use Rattle.std.proofs.Common.{ap, ◌++◌}
use Rattle.std.proofs.lemmas.Result.{IfOk-from_err}
use Rattle.mg_plan.specs.Names.{places_from}
use Rattle.mg_plan.proofs.StepLemmas.{place_put, places_put}
use Rattle.mg_plan.proofs.names.all_places.Goals as goal

pub loop-place-init : goal.loop-place-init
loop-place-init c = ap (λ ms. ms ++ places_from 0 c.args.columns.now) c.new-places.ensures.items

pub loop-place-preserved : goal.loop-place-preserved
loop-place-preserved c =
    place_put c.args.columns.now c.loop-place.place _ _ _ c.loop-place-test.true c.loop-place.invariant
    c.in_ok-push.ensures.items

pub returns : goal.returns
returns c = places_put c.args.columns.now c.loop-place.place _ _ c.loop-place-test.false c.loop-place.invariant

pub returns-in_err-push : goal.returns-in_err-push
returns-in_err-push c = IfOk-from_err c.from_residual.result _ c.from_residual.ensures.0
