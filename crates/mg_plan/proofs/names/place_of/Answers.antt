use Rattle.mg_plan.proofs.StepLemmas.{place_on, place_here}
use Rattle.mg_plan.proofs.names.place_of.Goals as goal

pub loop-place-preserved : goal.loop-place-preserved
loop-place-preserved c =
    place_on c.args.columns.now c.loop-place.place c.index-columns-place.result c.args.name.now _ _ c.same_name.result _
    c.loop-place-test.true c.index-columns-place.is c.as_slice.ensures.bytes c.as_slice-in-loop-place.ensures.bytes
    c.same_name.ensures c.if-same_name.false c.loop-place.invariant

pub returns-then-same_name-clause-place : goal.returns-then-same_name-clause-place
returns-then-same_name-clause-place c =
    place_here c.args.columns.now c.loop-place.place c.index-columns-place.result c.args.name.now _ _ c.same_name.result _
    c.loop-place-test.true c.index-columns-place.is c.as_slice.ensures.bytes c.as_slice-in-loop-place.ensures.bytes
    c.same_name.ensures c.if-same_name.true c.loop-place.invariant
