use Rattle.mg_expr.specs.Trees.{tree_of}
use Rattle.mg_plan.specs.Binding.{is_known}
use Rattle.mg_plan.proofs.StepLemmas.{first_true, first_false, none_left}
use Rattle.mg_plan.proofs.statements.are_known.Goals as goal

pub loop-value-preserved : goal.loop-value-preserved
loop-value-preserved c =
    first_true (λ t. is_known t c.args.columns.now) tree_of
    c.loop-value.rest.now c.in-Some.later.now c.in-Some.value.now _ _ c.in-Some.ensures.cases.0 c.knows.ensures
    c.if-not-knows.false c.loop-value.invariant

pub returns-then-not-knows : goal.returns-then-not-knows
returns-then-not-knows c =
    first_false (λ t. is_known t c.args.columns.now) tree_of
    c.loop-value.rest.now c.in-Some.later.now c.in-Some.value.now _ _ c.in-Some.ensures.cases.0 c.knows.ensures
    c.if-not-knows.true c.loop-value.invariant

pub returns : goal.returns
returns c =
    none_left (λ t. is_known t c.args.columns.now) tree_of
    c.loop-value.rest.now _ c.in_default.ensures.cases c.loop-value.invariant
