use Rattle.mg_statements.specs.Plain.{assign_of}
use Rattle.mg_plan.specs.Names.{place_of}
use Rattle.mg_plan.specs.Statements.{is_place}
use Rattle.mg_plan.proofs.StepLemmas.{any_here, any_later, any_none}
use Rattle.mg_plan.proofs.statements.do_sets_key.Goals as goal

pub loop-set-preserved : goal.loop-set-preserved
loop-set-preserved c =
    any_later (λ set. is_place c.args.key (place_of c.args.columns.now set.0)) assign_of
    c.loop-set.rest.now c.in-Some.later.now c.in-Some.set.now _ _ c.in-Some.ensures.cases.0 c.is_key.ensures
    c.if-is_key.false c.loop-set.invariant

pub returns-then-is_key : goal.returns-then-is_key
returns-then-is_key c =
    any_here (λ set. is_place c.args.key (place_of c.args.columns.now set.0)) assign_of
    c.loop-set.rest.now c.in-Some.later.now c.in-Some.set.now _ _ c.in-Some.ensures.cases.0 c.is_key.ensures
    c.if-is_key.true c.loop-set.invariant

pub returns : goal.returns
returns c =
    any_none (λ set. is_place c.args.key (place_of c.args.columns.now set.0)) assign_of
    c.loop-set.rest.now _ c.in_default.ensures.cases c.loop-set.invariant
