use Rattle.std.proofs.Common.{sym, ◌∙◌}
use Rattle.mg_plan.specs.Binding.{knows, knows_part}
use Rattle.mg_plan.proofs.StepLemmas.{all_true, all_false, all_tested}
use Rattle.mg_plan.proofs.BindingLemmas.{or_knows, and_knows, sum_knows, sum_fails, product_knows, product_fails}
use Rattle.mg_plan.proofs.BoxLemmas.{not_knows, is_null_knows, is_not_null_knows, minus_knows, compare_knows}
use Rattle.mg_plan.proofs.BoxLemmas.{compare_fails}
use Rattle.mg_plan.proofs.knowing.+knowing.Goals as goal

pub knows_each-loop-part-preserved : goal.knows_each-loop-part-preserved
knows_each-loop-part-preserved t c =
    all_true (knows c.args.columns.now) c.args.parts.now c.loop-part.part-index c.part-item.result _ c.loop-part-test.true
    c.part-item.is (sym c.knows.ensures ∙ c.if-not-knows.false) c.loop-part.invariant

pub knows_each-returns-then-not-knows : goal.knows_each-returns-then-not-knows
knows_each-returns-then-not-knows t c =
    all_false (knows c.args.columns.now) c.args.parts.now c.loop-part.part-index c.part-item.result _ c.loop-part-test.true
    c.part-item.is (sym c.knows.ensures ∙ c.if-not-knows.true) c.loop-part.invariant

pub knows_parts-loop-part-preserved : goal.knows_parts-loop-part-preserved
knows_parts-loop-part-preserved t c =
    all_true (knows_part c.args.columns.now) c.args.parts.now c.loop-part.part-index c.part-item.result _
    c.loop-part-test.true c.part-item.is (sym c.knows.ensures ∙ c.if-not-knows.false) c.loop-part.invariant

pub knows_parts-returns-then-not-knows : goal.knows_parts-returns-then-not-knows
knows_parts-returns-then-not-knows t c =
    all_false (knows_part c.args.columns.now) c.args.parts.now c.loop-part.part-index c.part-item.result _
    c.loop-part-test.true c.part-item.is (sym c.knows.ensures ∙ c.if-not-knows.true) c.loop-part.invariant

pub knows-returns-in-Or : goal.knows-returns-in-Or
knows-returns-in-Or t c =
    or_knows c.args.columns.now _ _ _ _ c.in-Or.is c.deref.ensures.value c.knows_each.ensures

pub knows-returns-in-And : goal.knows-returns-in-And
knows-returns-in-And t c =
    and_knows c.args.columns.now _ _ _ _ c.in-And.is c.deref-in-And.ensures.value c.knows_each-in-And.ensures

pub knows-returns-in-Not : goal.knows-returns-in-Not
knows-returns-in-Not t c =
    not_knows c.args.columns.now _ _ c.in-Not.part _ c.in-Not.is c.deref-in-Not.ensures c.knows.ensures

pub knows-returns-in-IsNull : goal.knows-returns-in-IsNull
knows-returns-in-IsNull t c =
    is_null_knows c.args.columns.now _ _ c.in-IsNull.part _ c.in-IsNull.is c.deref-in-IsNull.ensures
    c.knows-in-IsNull.ensures

pub knows-returns-in-IsNotNull : goal.knows-returns-in-IsNotNull
knows-returns-in-IsNotNull t c =
    is_not_null_knows c.args.columns.now _ _ c.in-IsNotNull.part _ c.in-IsNotNull.is c.deref-in-IsNotNull.ensures
    c.knows-in-IsNotNull.ensures

pub knows-returns-in-Minus : goal.knows-returns-in-Minus
knows-returns-in-Minus t c =
    minus_knows c.args.columns.now _ _ c.in-Minus.part _ c.in-Minus.is c.deref-in-Minus.ensures c.knows-in-Minus.ensures

pub knows-returns-then-knows : goal.knows-returns-then-knows
knows-returns-then-knows t c =
    compare_knows c.args.columns.now _ _ _ c.in-Compare.a c.in-Compare.b _ _ _ c.in-Compare.is
    c.deref-in-Compare.ensures
    c.deref-then-knows.ensures c.knows-in-Compare.ensures c.if-knows.true c.knows-then-knows.ensures

pub knows-returns-else-knows : goal.knows-returns-else-knows
knows-returns-else-knows t c =
    compare_fails c.args.columns.now _ _ c.in-Compare.a c.in-Compare.b _ _ c.in-Compare.is c.deref-in-Compare.ensures
    c.knows-in-Compare.ensures c.if-knows.false

pub knows-returns-then-knows-2 : goal.knows-returns-then-knows-2
knows-returns-then-knows-2 t c =
    sum_knows c.args.columns.now _ _ c.in-Sum.first c.in-Sum.parts _ _ _ c.in-Sum.is c.deref-then-knows-2.ensures.value
    c.deref-in-Sum.ensures c.knows-in-Sum.ensures c.if-knows-2.true c.knows_parts.ensures

pub knows-returns-else-knows-2 : goal.knows-returns-else-knows-2
knows-returns-else-knows-2 t c =
    sum_fails c.args.columns.now _ _ c.in-Sum.first c.in-Sum.parts _ c.in-Sum.is c.deref-in-Sum.ensures
    c.knows-in-Sum.ensures
    c.if-knows-2.false

pub knows-returns-then-knows-3 : goal.knows-returns-then-knows-3
knows-returns-then-knows-3 t c =
    product_knows c.args.columns.now _ _ c.in-Product.first c.in-Product.parts _ _ _ c.in-Product.is
    c.deref-then-knows-3.ensures.value c.deref-in-Product.ensures c.knows-in-Product.ensures c.if-knows-3.true
    c.knows_parts-then-knows-3.ensures

pub knows-returns-else-knows-3 : goal.knows-returns-else-knows-3
knows-returns-else-knows-3 t c =
    product_fails c.args.columns.now _ _ c.in-Product.first c.in-Product.parts _ c.in-Product.is
    c.deref-in-Product.ensures
    c.knows-in-Product.ensures c.if-knows-3.false

pub knows_each-returns : goal.knows_each-returns
knows_each-returns t c =
    all_tested (knows c.args.columns.now) c.args.parts.now c.loop-part.part-index _ c.loop-part-test.false
    c.loop-part.invariant

pub knows_parts-returns : goal.knows_parts-returns
knows_parts-returns t c =
    all_tested (knows_part c.args.columns.now) c.args.parts.now c.loop-part.part-index _ c.loop-part-test.false
    c.loop-part.invariant
