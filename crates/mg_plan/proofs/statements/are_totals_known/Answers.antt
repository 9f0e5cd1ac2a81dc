use Rattle.mg_statements.specs.Plain.{total_of}
use Rattle.mg_plan.specs.Statements.{is_total_known}
use Rattle.mg_plan.proofs.StepLemmas.{first_true, first_false, none_left}
use Rattle.mg_plan.proofs.statements.are_totals_known.Goals as goal

pub loop-total-preserved : goal.loop-total-preserved
loop-total-preserved c =
    first_true (is_total_known c.args.columns.now) total_of
    c.loop-total.rest.now c.in-Some.later.now c.in-Some.total.now _ _ c.in-Some.ensures.cases.0 c.is_total_known.ensures
    c.if-not-is_total_known.false c.loop-total.invariant

pub returns-then-not-is_total_known : goal.returns-then-not-is_total_known
returns-then-not-is_total_known c =
    first_false (is_total_known c.args.columns.now) total_of
    c.loop-total.rest.now c.in-Some.later.now c.in-Some.total.now _ _ c.in-Some.ensures.cases.0 c.is_total_known.ensures
    c.if-not-is_total_known.true c.loop-total.invariant

pub returns : goal.returns
returns c =
    none_left (is_total_known c.args.columns.now) total_of
    c.loop-total.rest.now _ c.in_default.ensures.cases c.loop-total.invariant
