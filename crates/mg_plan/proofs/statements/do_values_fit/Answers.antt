use Rattle.std.proofs.Common.{◌∙◌, [], ap}
use Rattle.std.specs.Prelude.{slice_get}
use Rattle.mg_expr.specs.Trees.{tree_of}
use Rattle.mg_expr.specs.Typing.{sort_of}
use Rattle.mg_plan.specs.Types.{fits_column}
use Rattle.mg_plan.proofs.TypeLemmas.{fits_next, fits_not, fits_nowhere, fits_none}
use Rattle.mg_plan.proofs.statements.do_values_fit.Goals as goal

pub returns : goal.returns
returns c =
    c.is_empty.ensures
    ∙ (fits_none c.args.columns.now c.loop-value.places.now (λ t. sort_of t []) tree_of c.loop-value.values.now c.in_default.ensures.cases
    ∙ c.loop-value.invariant)

pub loop-value-preserved : goal.loop-value-preserved
loop-value-preserved c =
    fits_next c.args.columns.now c.loop-value.places.now c.in-Some-split_first.others.now
    c.in-Some-split_first.place.now
    (λ t. sort_of t []) tree_of c.loop-value.values.now c.in-Some.later.now c.in-Some.value.now _ _
    c.in-Some.ensures.cases.0 c.in-Some-split_first.ensures.cases.0
    (c.fits_column.ensures ∙ ap (fits_column (slice_get c.args.columns.now c.in-Some-split_first.place.now))
    c.type_of.ensures)
    c.if-not-fits_column.false c.loop-value.invariant

pub returns-then-not-fits_column : goal.returns-then-not-fits_column
returns-then-not-fits_column c =
    fits_not c.args.columns.now c.loop-value.places.now c.in-Some-split_first.others.now c.in-Some-split_first.place.now
    (λ t. sort_of t []) tree_of c.loop-value.values.now c.in-Some.later.now c.in-Some.value.now _ _
    c.in-Some.ensures.cases.0 c.in-Some-split_first.ensures.cases.0
    (c.fits_column.ensures ∙ ap (fits_column (slice_get c.args.columns.now c.in-Some-split_first.place.now))
    c.type_of.ensures)
    c.if-not-fits_column.true c.loop-value.invariant

pub returns-in_default-split_first : goal.returns-in_default-split_first
returns-in_default-split_first c =
    fits_nowhere c.args.columns.now c.loop-value.places.now (λ t. sort_of t []) tree_of
    c.loop-value.values.now c.in-Some.later.now c.in-Some.value.now _ c.in-Some.ensures.cases.0
    c.in_default-split_first.ensures.cases c.loop-value.invariant
