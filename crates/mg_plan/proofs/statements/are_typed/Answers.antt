use Rattle.std.proofs.Common.{◌∙◌, ap}
use Rattle.mg_expr.specs.Trees.{tree_of}
use Rattle.mg_expr.specs.Typing.{fits_value, sort_of}
use Rattle.mg_plan.proofs.StepLemmas.{first_true, first_false, none_left}
use Rattle.mg_plan.proofs.statements.are_typed.Goals as goal

pub loop-value-preserved : goal.loop-value-preserved
loop-value-preserved c =
    first_true (λ t. fits_value (sort_of t c.args.columns.now)) tree_of
    c.loop-value.rest.now c.in-Some.later.now c.in-Some.value.now _ _
    c.in-Some.ensures.cases.0 (c.fits_value.ensures ∙ ap fits_value c.type_of.ensures)
    c.if-not-fits_value.false c.loop-value.invariant

pub returns-then-not-fits_value : goal.returns-then-not-fits_value
returns-then-not-fits_value c =
    first_false (λ t. fits_value (sort_of t c.args.columns.now)) tree_of
    c.loop-value.rest.now c.in-Some.later.now c.in-Some.value.now _ _
    c.in-Some.ensures.cases.0 (c.fits_value.ensures ∙ ap fits_value c.type_of.ensures)
    c.if-not-fits_value.true c.loop-value.invariant

pub returns : goal.returns
returns c =
    none_left (λ t. fits_value (sort_of t c.args.columns.now)) tree_of
    c.loop-value.rest.now _ c.in_default.ensures.cases c.loop-value.invariant
