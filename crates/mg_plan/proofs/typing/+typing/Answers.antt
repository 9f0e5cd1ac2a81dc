use Rattle.std.proofs.Common.{◌∙◌, ap, sym}
use Rattle.mg_expr.specs.Typing.{fits_integer, fits_truth, fits_value, are_comparable, sort_of_expr}
use Rattle.mg_plan.proofs.BindingLemmas.{or_sort, and_sort, sum_sort, product_sort}
use Rattle.mg_plan.proofs.StepLemmas.{all_true, all_false, all_tested}
use Rattle.mg_plan.proofs.BoxLemmas.{not_sort, is_null_sort, is_not_null_sort, minus_sort, compare_sort}
use Rattle.mg_plan.proofs.LeafLemmas.{integer_sort, text_sort, null_sort, name_sort, place_sort}
use Rattle.mg_plan.proofs.typing.+typing.Goals as goal

pub type_of-returns-in-Or : goal.type_of-returns-in-Or
type_of-returns-in-Or t c =
    or_sort c.args.columns.now _ _ _ _ _ c.in-Or.is c.deref.ensures.value c.are_truths.ensures c.provided.ensures

pub type_of-returns-in-And : goal.type_of-returns-in-And
type_of-returns-in-And t c =
    and_sort c.args.columns.now _ _ _ _ _ c.in-And.is c.deref-in-And.ensures.value c.are_truths-in-And.ensures c.provided-in-And.ensures

pub type_of-returns-in-Sum : goal.type_of-returns-in-Sum
type_of-returns-in-Sum t c =
    sum_sort c.args.columns.now _ _ c.in-Sum.first c.in-Sum.parts _ _ _ _ _ c.in-Sum.is c.deref-in-Sum-2.ensures.value c.deref-in-Sum.ensures
    (c.fits_integer-is_first.ensures ∙ ap fits_integer c.type_of-in-Sum.ensures) c.are_integers-are_others.ensures c.both.ensures c.provided-in-Sum.ensures

pub type_of-returns-in-Product : goal.type_of-returns-in-Product
type_of-returns-in-Product t c =
    product_sort c.args.columns.now _ _ c.in-Product.first c.in-Product.parts _ _ _ _ _ c.in-Product.is c.deref-in-Product-2.ensures.value c.deref-in-Product.ensures
    (c.fits_integer-is_first-in-Product.ensures ∙ ap fits_integer c.type_of-in-Product.ensures) c.are_integers-are_others-in-Product.ensures c.both-in-Product.ensures c.provided-in-Product.ensures

pub are_truths-loop-part-preserved : goal.are_truths-loop-part-preserved
are_truths-loop-part-preserved t c =
    all_true (λ e. fits_truth (sort_of_expr e c.args.columns.now)) c.args.parts.now c.loop-part.part-index
    c.part-item.result _ c.loop-part-test.true c.part-item.is
    (sym (c.fits_truth.ensures ∙ ap fits_truth c.type_of.ensures) ∙ c.if-not-fits_truth.false) c.loop-part.invariant

pub are_truths-returns-then-not-fits_truth : goal.are_truths-returns-then-not-fits_truth
are_truths-returns-then-not-fits_truth t c =
    all_false (λ e. fits_truth (sort_of_expr e c.args.columns.now)) c.args.parts.now c.loop-part.part-index
    c.part-item.result _ c.loop-part-test.true c.part-item.is
    (sym (c.fits_truth.ensures ∙ ap fits_truth c.type_of.ensures) ∙ c.if-not-fits_truth.true) c.loop-part.invariant

pub are_integers-loop-part-preserved : goal.are_integers-loop-part-preserved
are_integers-loop-part-preserved t c =
    all_true (λ p. fits_integer (sort_of_expr p.value c.args.columns.now)) c.args.parts.now c.loop-part.part-index
    c.part-item.result _ c.loop-part-test.true c.part-item.is
    (sym (c.fits_integer.ensures ∙ ap fits_integer c.type_of.ensures) ∙ c.if-not-fits_integer.false)
    c.loop-part.invariant

pub are_integers-returns-then-not-fits_integer : goal.are_integers-returns-then-not-fits_integer
are_integers-returns-then-not-fits_integer t c =
    all_false (λ p. fits_integer (sort_of_expr p.value c.args.columns.now)) c.args.parts.now c.loop-part.part-index
    c.part-item.result _ c.loop-part-test.true c.part-item.is
    (sym (c.fits_integer.ensures ∙ ap fits_integer c.type_of.ensures) ∙ c.if-not-fits_integer.true)
    c.loop-part.invariant

pub type_of-returns-in-Not : goal.type_of-returns-in-Not
type_of-returns-in-Not t c =
    not_sort c.args.columns.now _ _ c.in-Not.part _ _ c.in-Not.is c.deref-in-Not.ensures
    (c.fits_truth.ensures ∙ ap fits_truth c.type_of.ensures) c.provided-in-Not.ensures

pub type_of-returns-in-IsNull : goal.type_of-returns-in-IsNull
type_of-returns-in-IsNull t c =
    is_null_sort c.args.columns.now _ _ c.in-IsNull.part _ _ c.in-IsNull.is c.deref-in-IsNull.ensures
    (c.fits_value.ensures ∙ ap fits_value c.type_of-in-IsNull.ensures) c.provided-in-IsNull.ensures

pub type_of-returns-in-IsNotNull : goal.type_of-returns-in-IsNotNull
type_of-returns-in-IsNotNull t c =
    is_not_null_sort c.args.columns.now _ _ c.in-IsNotNull.part _ _ c.in-IsNotNull.is c.deref-in-IsNotNull.ensures
    (c.fits_value-in-IsNotNull.ensures ∙ ap fits_value c.type_of-in-IsNotNull.ensures) c.provided-in-IsNotNull.ensures

pub type_of-returns-in-Minus : goal.type_of-returns-in-Minus
type_of-returns-in-Minus t c =
    minus_sort c.args.columns.now _ _ c.in-Minus.part _ _ c.in-Minus.is c.deref-in-Minus.ensures
    (c.fits_integer.ensures ∙ ap fits_integer c.type_of-in-Minus.ensures) c.provided-in-Minus.ensures

pub type_of-returns-in-Compare : goal.type_of-returns-in-Compare
type_of-returns-in-Compare t c =
    compare_sort c.args.columns.now _ _ _ c.in-Compare.a c.in-Compare.b _ _ _ c.in-Compare.is c.deref-in-Compare.ensures
    c.deref-in-Compare-2.ensures (c.are_comparable-comparable.ensures
    ∙ (λ i. are_comparable (c.type_of-in-Compare.ensures i) (c.type_of-in-Compare-2.ensures i)))
    c.provided-in-Compare.ensures

pub are_truths-returns : goal.are_truths-returns
are_truths-returns t c =
    all_tested (λ e. fits_truth (sort_of_expr e c.args.columns.now)) c.args.parts.now c.loop-part.part-index _
    c.loop-part-test.false c.loop-part.invariant

pub are_integers-returns : goal.are_integers-returns
are_integers-returns t c =
    all_tested (λ p. fits_integer (sort_of_expr p.value c.args.columns.now)) c.args.parts.now c.loop-part.part-index _
    c.loop-part-test.false c.loop-part.invariant

pub type_of-returns-in-Integer : goal.type_of-returns-in-Integer
type_of-returns-in-Integer t c = integer_sort c.args.columns.now _ _ c.in-Integer.is

pub type_of-returns-in-Text : goal.type_of-returns-in-Text
type_of-returns-in-Text t c = text_sort c.args.columns.now _ _ c.in-Text.is

pub type_of-returns-in-Null : goal.type_of-returns-in-Null
type_of-returns-in-Null t c = null_sort c.args.columns.now _ c.in-Null.is

pub type_of-returns-in-Name : goal.type_of-returns-in-Name
type_of-returns-in-Name t c = name_sort c.args.columns.now _ _ c.in-Name.is

pub type_of-returns-in-Column : goal.type_of-returns-in-Column
type_of-returns-in-Column t c = place_sort c.args.columns.now _ _ _ c.in-Column.is c.type_at.ensures
