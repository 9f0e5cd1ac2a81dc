use Rattle.std.proofs.Common.{Some, List, map, ap, ◌∙◌, sym, drop, ◌+◌, refl}
use Rattle.mg_expr.specs.declared.expr.Expr.{Expr}
use Rattle.mg_expr.specs.declared.expr.Part.{Part}
use Rattle.mg_expr.specs.Meaning.{says_of, part_says, value_in, truth_in, holds, gives, and_then, or_else, all_of, any_of, compares, denied, null_test, not_null_test, negative, total, added, multiplied}
use Rattle.mg_expr.proofs.FaultLemmas.{drop_item, all_fault, any_fault, part_fault, step_fault, step_taken, truth_fault, value_fault, first_fault}
use Rattle.mg_expr.proofs.PartLemmas.{or_says, and_says, sum_starts, sum_says, product_starts, product_says}
use Rattle.mg_expr.proofs.SayingLemmas.{all_done, all_false, all_more, any_done, any_true, any_more, column_said, compare_begins, compare_said, false_not_true, is_not_null_said, is_false, is_null_said, is_true, minus_begins, name_said, not_false, not_said, not_true, null_said, one_fault, says_compare, says_is_not_null, says_is_null, says_minus, says_not, tells_memory, text_said, total_done, true_not_false}
use Rattle.mg_expr.proofs.evaluating.+saying.Goals as goal

pub all-returns-in_err-says : goal.all-returns-in_err-says
all-returns-in_err-says t c =
    all_fault _ _ _ _ _ _ c.from_residual.ensures.1 c.in_err-says.ensures c.loop-part.invariant.0 (sym (drop_item (λ (es : List Expr). and_then (Some c.loop-part.all) (all_of (map (λ e. says_of e c.args.row.now) es))) c.args.parts.now c.loop-part.part-index c.part-item.result c.loop-part-test.true c.part-item.is) ∙ c.loop-part.invariant.1)

pub any-returns-in_err-says : goal.any-returns-in_err-says
any-returns-in_err-says t c =
    any_fault _ _ _ _ _ _ c.from_residual.ensures.1 c.in_err-says.ensures c.loop-part.invariant.0 (sym (drop_item (λ (es : List Expr). or_else (Some c.loop-part.any) (any_of (map (λ e. says_of e c.args.row.now) es))) c.args.parts.now c.loop-part.part-index c.part-item.result c.loop-part-test.true c.part-item.is) ∙ c.loop-part.invariant.1)

pub sum-returns-in_err-says : goal.sum-returns-in_err-says
sum-returns-in_err-says t c =
    part_fault added c.loop-part.sum c.part-item.result.inverse _ (map (λ p. part_says p c.args.row.now) (drop (c.loop-part.part-index + 1) c.args.parts.now)) _ _ _ c.from_residual.ensures.1 c.in_err-says.ensures (sym (drop_item (λ (ps : List Part). total added (Some c.loop-part.sum) (map (λ p. part_says p c.args.row.now) ps)) c.args.parts.now c.loop-part.part-index c.part-item.result c.loop-part-test.true c.part-item.is) ∙ c.loop-part.invariant)

pub product-returns-in_err-says : goal.product-returns-in_err-says
product-returns-in_err-says t c =
    part_fault multiplied c.loop-part.product c.part-item.result.inverse _ (map (λ p. part_says p c.args.row.now) (drop (c.loop-part.part-index + 1) c.args.parts.now)) _ _ _ c.from_residual.ensures.1 c.in_err-says.ensures (sym (drop_item (λ (ps : List Part). total multiplied (Some c.loop-part.product) (map (λ p. part_says p c.args.row.now) ps)) c.args.parts.now c.loop-part.part-index c.part-item.result c.loop-part-test.true c.part-item.is) ∙ c.loop-part.invariant)

pub sum-returns-in_err-sum : goal.sum-returns-in_err-sum
sum-returns-in_err-sum t c =
    step_fault added c.loop-part.sum c.into_value-value.result c.part-item.result.inverse (says_of c.part-item.result.value c.args.row.now) (map (λ p. part_says p c.args.row.now) (drop (c.loop-part.part-index + 1) c.args.parts.now)) _ _ _ c.from_residual-in_err-sum.ensures.1 (ap value_in c.in_ok-says.ensures ∙ c.into_value-value.ensures) c.in_err-sum.ensures (sym (drop_item (λ (ps : List Part). total added (Some c.loop-part.sum) (map (λ p. part_says p c.args.row.now) ps)) c.args.parts.now c.loop-part.part-index c.part-item.result c.loop-part-test.true c.part-item.is) ∙ c.loop-part.invariant)

pub product-returns-in_err-product : goal.product-returns-in_err-product
product-returns-in_err-product t c =
    step_fault multiplied c.loop-part.product c.into_value-value.result c.part-item.result.inverse (says_of c.part-item.result.value c.args.row.now) (map (λ p. part_says p c.args.row.now) (drop (c.loop-part.part-index + 1) c.args.parts.now)) _ _ _ c.from_residual-in_err-product.ensures.1 (ap value_in c.in_ok-says.ensures ∙ c.into_value-value.ensures) c.in_err-product.ensures (sym (drop_item (λ (ps : List Part). total multiplied (Some c.loop-part.product) (map (λ p. part_says p c.args.row.now) ps)) c.args.parts.now c.loop-part.part-index c.part-item.result c.loop-part-test.true c.part-item.is) ∙ c.loop-part.invariant)

pub says-returns-in_err-any-in-Or : goal.says-returns-in_err-any-in-Or
says-returns-in_err-any-in-Or t c =
    truth_fault _ _ _ _ c.from_residual.ensures.1 c.in_err-any-in-Or.ensures (or_says _ _ _ c.args.row.now c.in-Or.is c.deref.ensures.value)

pub says-returns-in_ok-any-in-Or : goal.says-returns-in_ok-any-in-Or
says-returns-in_ok-any-in-Or t c =
    or_says _ _ _ c.args.row.now c.in-Or.is c.deref.ensures.value ∙ ap holds c.in_ok-any-in-Or.ensures

pub says-returns-in_err-all-in-And : goal.says-returns-in_err-all-in-And
says-returns-in_err-all-in-And t c =
    truth_fault _ _ _ _ c.from_residual-in_err-all-in-And.ensures.1 c.in_err-all-in-And.ensures (and_says _ _ _ c.args.row.now c.in-And.is c.deref-in-And.ensures.value)

pub says-returns-in_ok-all-in-And : goal.says-returns-in_ok-all-in-And
says-returns-in_ok-all-in-And t c =
    and_says _ _ _ c.args.row.now c.in-And.is c.deref-in-And.ensures.value ∙ ap holds c.in_ok-all-in-And.ensures

pub says-returns-in_err-says-in-Sum : goal.says-returns-in_err-says-in-Sum
says-returns-in_err-says-in-Sum t c =
    first_fault added _ _ (map (λ p. part_says p c.args.row.now) c.in-Sum.parts.items) _ _
    c.from_residual-in_err-says-in-Sum.ensures.1 c.in_err-says-in-Sum.ensures (sum_starts _ _ c.in-Sum.first
    c.in-Sum.parts c.args.row.now c.in-Sum.is c.deref-in-Sum.ensures)

pub says-returns-in_err-sum-in-Sum : goal.says-returns-in_err-sum-in-Sum
says-returns-in_err-sum-in-Sum t c =
    value_fault _ _ _ _ c.from_residual-in_err-sum-in-Sum.ensures.1 c.in_err-sum-in-Sum.ensures (sum_says _ _ c.in-Sum.first c.in-Sum.parts _ c.args.row.now _ c.in-Sum.is c.deref-in-Sum-2.ensures.value c.deref-in-Sum.ensures (ap value_in c.in_ok-says-in-Sum.ensures ∙ c.into_value-first.ensures))

pub says-returns-in_ok-sum-in-Sum : goal.says-returns-in_ok-sum-in-Sum
says-returns-in_ok-sum-in-Sum t c =
    sum_says _ _ c.in-Sum.first c.in-Sum.parts _ c.args.row.now _ c.in-Sum.is c.deref-in-Sum-2.ensures.value c.deref-in-Sum.ensures (ap value_in c.in_ok-says-in-Sum.ensures ∙ c.into_value-first.ensures) ∙ ap gives c.in_ok-sum-in-Sum.ensures

pub says-returns-in_err-says-in-Product : goal.says-returns-in_err-says-in-Product
says-returns-in_err-says-in-Product t c =
    first_fault multiplied _ _ (map (λ p. part_says p c.args.row.now) c.in-Product.parts.items) _ _
    c.from_residual-in_err-says-in-Product.ensures.1 c.in_err-says-in-Product.ensures (product_starts _ _
    c.in-Product.first c.in-Product.parts c.args.row.now c.in-Product.is c.deref-in-Product.ensures)

pub says-returns-in_err-product-in-Product : goal.says-returns-in_err-product-in-Product
says-returns-in_err-product-in-Product t c =
    value_fault _ _ _ _ c.from_residual-in_err-product-in-Product.ensures.1 c.in_err-product-in-Product.ensures (product_says _ _ c.in-Product.first c.in-Product.parts _ c.args.row.now _ c.in-Product.is c.deref-in-Product-2.ensures.value c.deref-in-Product.ensures (ap value_in c.in_ok-says-in-Product.ensures ∙ c.into_value-first-in-Product.ensures))

pub says-returns-in_ok-product-in-Product : goal.says-returns-in_ok-product-in-Product
says-returns-in_ok-product-in-Product t c =
    product_says _ _ c.in-Product.first c.in-Product.parts _ c.args.row.now _ c.in-Product.is c.deref-in-Product-2.ensures.value c.deref-in-Product.ensures (ap value_in c.in_ok-says-in-Product.ensures ∙ c.into_value-first-in-Product.ensures) ∙ ap gives c.in_ok-product-in-Product.ensures

pub all-loop-part-preserved : goal.all-loop-part-preserved
all-loop-part-preserved t c = (
  not_false c.both-all.result c.if-eq.ensures,
  all_more c.loop-part.all c.into_truth.result c.both-all.result _ _
      _ c.loop-part.invariant.0 (ap truth_in c.in_ok-says.ensures ∙ c.into_truth.ensures) c.both-all.ensures (sym
      (drop_item (λ (es : List Expr). and_then (Some c.loop-part.all) (all_of (map (λ e. says_of e c.args.row.now)
      es))) c.args.parts.now c.loop-part.part-index c.part-item.result c.loop-part-test.true c.part-item.is) ∙
      c.loop-part.invariant.1),
)

pub all-returns-then-eq : goal.all-returns-then-eq
all-returns-then-eq t c =
    all_false c.both-all.result _ _ (is_false c.both-all.result c.if-eq.ensures) (all_more c.loop-part.all
    c.into_truth.result c.both-all.result _ _ _ c.loop-part.invariant.0 (ap truth_in c.in_ok-says.ensures ∙
    c.into_truth.ensures) c.both-all.ensures (sym (drop_item (λ (es : List Expr). and_then (Some c.loop-part.all)
    (all_of (map (λ e. says_of e c.args.row.now) es))) c.args.parts.now c.loop-part.part-index c.part-item.result
    c.loop-part-test.true c.part-item.is) ∙ c.loop-part.invariant.1))

pub all-returns : goal.all-returns
all-returns t c =
    all_done (λ e. says_of e c.args.row.now) c.args.parts.now c.loop-part.part-index c.loop-part.all _
    c.loop-part-test.false c.loop-part.invariant.0 c.loop-part.invariant.1

pub all-loop-part-init : goal.all-loop-part-init
all-loop-part-init t c =
    (true_not_false, refl)

pub any-loop-part-preserved : goal.any-loop-part-preserved
any-loop-part-preserved t c = (
  not_true c.either-any.result c.if-eq.ensures,
  any_more c.loop-part.any c.into_truth.result c.either-any.result _
      _ _ c.loop-part.invariant.0 (ap truth_in c.in_ok-says.ensures ∙ c.into_truth.ensures) c.either-any.ensures (sym
      (drop_item (λ (es : List Expr). or_else (Some c.loop-part.any) (any_of (map (λ e. says_of e c.args.row.now) es)))
      c.args.parts.now c.loop-part.part-index c.part-item.result c.loop-part-test.true c.part-item.is) ∙
      c.loop-part.invariant.1),
)

pub any-returns-then-eq : goal.any-returns-then-eq
any-returns-then-eq t c =
    any_true c.either-any.result _ _ (is_true c.either-any.result c.if-eq.ensures) (any_more c.loop-part.any
    c.into_truth.result c.either-any.result _ _ _ c.loop-part.invariant.0 (ap truth_in c.in_ok-says.ensures ∙
    c.into_truth.ensures) c.either-any.ensures (sym (drop_item (λ (es : List Expr). or_else (Some c.loop-part.any)
    (any_of (map (λ e. says_of e c.args.row.now) es))) c.args.parts.now c.loop-part.part-index c.part-item.result
    c.loop-part-test.true c.part-item.is) ∙ c.loop-part.invariant.1))

pub any-returns : goal.any-returns
any-returns t c =
    any_done (λ e. says_of e c.args.row.now) c.args.parts.now c.loop-part.part-index c.loop-part.any _
    c.loop-part-test.false c.loop-part.invariant.0 c.loop-part.invariant.1

pub any-loop-part-init : goal.any-loop-part-init
any-loop-part-init t c =
    (false_not_true, refl)

pub sum-loop-part-init : goal.sum-loop-part-init
sum-loop-part-init t c =
    refl

pub sum-loop-part-preserved : goal.sum-loop-part-preserved
sum-loop-part-preserved t c =
    step_taken added c.loop-part.sum c.into_value-value.result c.in_ok-sum.sum c.part-item.result.inverse (says_of
    c.part-item.result.value c.args.row.now) (map (λ p. part_says p c.args.row.now) (drop (c.loop-part.part-index +
    1) c.args.parts.now)) _ (ap value_in c.in_ok-says.ensures ∙ c.into_value-value.ensures) c.in_ok-sum.ensures (sym
    (drop_item (λ (ps : List Part). total added (Some c.loop-part.sum) (map (λ p. part_says p c.args.row.now) ps))
    c.args.parts.now c.loop-part.part-index c.part-item.result c.loop-part-test.true c.part-item.is) ∙
    c.loop-part.invariant)

pub sum-returns : goal.sum-returns
sum-returns t c =
    total_done added (λ p. part_says p c.args.row.now) c.args.parts.now c.loop-part.part-index c.loop-part.sum _
    c.loop-part-test.false c.loop-part.invariant

pub product-loop-part-init : goal.product-loop-part-init
product-loop-part-init t c =
    refl

pub product-loop-part-preserved : goal.product-loop-part-preserved
product-loop-part-preserved t c =
    step_taken multiplied c.loop-part.product c.into_value-value.result c.in_ok-product.product
    c.part-item.result.inverse (says_of c.part-item.result.value c.args.row.now) (map (λ p. part_says p
    c.args.row.now) (drop (c.loop-part.part-index + 1) c.args.parts.now)) _ (ap value_in c.in_ok-says.ensures ∙
    c.into_value-value.ensures) c.in_ok-product.ensures (sym (drop_item (λ (ps : List Part). total multiplied (Some
    c.loop-part.product) (map (λ p. part_says p c.args.row.now) ps)) c.args.parts.now c.loop-part.part-index
    c.part-item.result c.loop-part-test.true c.part-item.is) ∙ c.loop-part.invariant)

pub product-returns : goal.product-returns
product-returns t c =
    total_done multiplied (λ p. part_says p c.args.row.now) c.args.parts.now c.loop-part.part-index
    c.loop-part.product _ c.loop-part-test.false c.loop-part.invariant

pub says-returns-in_err-says-in-Not : goal.says-returns-in_err-says-in-Not
says-returns-in_err-says-in-Not t c =
    one_fault (λ s. holds (denied (truth_in s))) _ _ _ _ refl c.from_residual-in_err-says-in-Not.ensures.1
    c.in_err-says-in-Not.ensures (says_not _ _ _ c.args.row.now c.in-Not.is c.deref-in-Not.ensures)

pub says-returns-in_ok-says-in-Not : goal.says-returns-in_ok-says-in-Not
says-returns-in_ok-says-in-Not t c =
    not_said _ _ _ c.args.row.now c.into_truth-truth.result _ c.in-Not.is c.deref-in-Not.ensures (ap truth_in
    c.in_ok-says-in-Not.ensures ∙ c.into_truth-truth.ensures) c.negated.ensures

pub says-returns-in_err-says-in-IsNull : goal.says-returns-in_err-says-in-IsNull
says-returns-in_err-says-in-IsNull t c =
    one_fault (λ s. holds (null_test (value_in s))) _ _ _ _ refl c.from_residual-in_err-says-in-IsNull.ensures.1
    c.in_err-says-in-IsNull.ensures (says_is_null _ _ _ c.args.row.now c.in-IsNull.is c.deref-in-IsNull.ensures)

pub says-returns-in_ok-says-in-IsNull : goal.says-returns-in_ok-says-in-IsNull
says-returns-in_ok-says-in-IsNull t c =
    is_null_said _ _ _ c.args.row.now c.into_value-value.result _ c.in-IsNull.is c.deref-in-IsNull.ensures (ap
    value_in c.in_ok-says-in-IsNull.ensures ∙ c.into_value-value.ensures) c.null_test.ensures

pub says-returns-in_err-says-in-IsNotNull : goal.says-returns-in_err-says-in-IsNotNull
says-returns-in_err-says-in-IsNotNull t c =
    one_fault (λ s. holds (not_null_test (value_in s))) _ _ _ _ refl
    c.from_residual-in_err-says-in-IsNotNull.ensures.1 c.in_err-says-in-IsNotNull.ensures (says_is_not_null _ _ _
    c.args.row.now c.in-IsNotNull.is c.deref-in-IsNotNull.ensures)

pub says-returns-in_ok-says-in-IsNotNull : goal.says-returns-in_ok-says-in-IsNotNull
says-returns-in_ok-says-in-IsNotNull t c =
    is_not_null_said _ _ _ c.args.row.now c.into_value-value-in-IsNotNull.result _ c.in-IsNotNull.is
    c.deref-in-IsNotNull.ensures (ap value_in c.in_ok-says-in-IsNotNull.ensures ∙
    c.into_value-value-in-IsNotNull.ensures) c.not_null_test.ensures

pub says-returns-in_err-says-in-Minus : goal.says-returns-in_err-says-in-Minus
says-returns-in_err-says-in-Minus t c =
    one_fault (λ s. gives (negative (value_in s))) _ _ _ _ refl c.from_residual-in_err-says-in-Minus.ensures.1
    c.in_err-says-in-Minus.ensures (says_minus _ _ _ c.args.row.now c.in-Minus.is c.deref-in-Minus.ensures)

pub says-returns-in_err-negative-in-Minus : goal.says-returns-in_err-negative-in-Minus
says-returns-in_err-negative-in-Minus t c =
    value_fault _ _ _ _ c.from_residual-in_err-negative-in-Minus.ensures.1 c.in_err-negative-in-Minus.ensures
    (minus_begins _ _ _ c.args.row.now c.into_value-value-in-Minus.result c.in-Minus.is c.deref-in-Minus.ensures (ap
    value_in c.in_ok-says-in-Minus.ensures ∙ c.into_value-value-in-Minus.ensures))

pub says-returns-in_ok-negative-in-Minus : goal.says-returns-in_ok-negative-in-Minus
says-returns-in_ok-negative-in-Minus t c =
    minus_begins _ _ _ c.args.row.now c.into_value-value-in-Minus.result c.in-Minus.is c.deref-in-Minus.ensures (ap
    value_in c.in_ok-says-in-Minus.ensures ∙ c.into_value-value-in-Minus.ensures) ∙ ap gives
    c.in_ok-negative-in-Minus.ensures

pub says-returns-in_err-says-in-Compare : goal.says-returns-in_err-says-in-Compare
says-returns-in_err-says-in-Compare t c =
    one_fault (λ s. holds (compares c.in-Compare.sign (value_in s) (value_in (says_of c.in-Compare.b.value
    c.args.row.now)))) _ _ _ _ refl c.from_residual-in_err-says-in-Compare.ensures.1 c.in_err-says-in-Compare.ensures
    (says_compare _ _ _ _ _ c.in-Compare.sign c.args.row.now c.in-Compare.is c.deref-in-Compare.ensures refl)

pub says-returns-in_err-says-in-Compare-2 : goal.says-returns-in_err-says-in-Compare-2
says-returns-in_err-says-in-Compare-2 t c =
    one_fault (λ s. holds (compares c.in-Compare.sign (Some c.into_value-a.result) (value_in s))) _ _ _ _ refl
    c.from_residual-in_err-says-in-Compare-2.ensures.1 c.in_err-says-in-Compare-2.ensures (compare_begins _ _ _ _ _
    c.in-Compare.sign c.args.row.now c.into_value-a.result c.in-Compare.is c.deref-in-Compare.ensures
    c.deref-in-Compare-2.ensures (ap value_in c.in_ok-says-in-Compare.ensures ∙ c.into_value-a.ensures))

pub says-returns-in_ok-says-in-Compare-2 : goal.says-returns-in_ok-says-in-Compare-2
says-returns-in_ok-says-in-Compare-2 t c =
    compare_said _ _ _ _ _ c.in-Compare.sign c.args.row.now c.into_value-a.result c.into_value-b.result _
    c.in-Compare.is c.deref-in-Compare.ensures c.deref-in-Compare-2.ensures (ap value_in
    c.in_ok-says-in-Compare.ensures ∙ c.into_value-a.ensures) (ap value_in c.in_ok-says-in-Compare-2.ensures ∙
    c.into_value-b.ensures) c.compared.ensures

pub says-returns-in_err-column-in-Column : goal.says-returns-in_err-column-in-Column
says-returns-in_err-column-in-Column t c =
    tells_memory _ _ c.from_residual-in_err-column-in-Column.ensures.1

pub says-returns-in_err-copy-in-Text : goal.says-returns-in_err-copy-in-Text
says-returns-in_err-copy-in-Text t c =
    tells_memory _ _ c.from_residual-in_err-copy-in-Text.ensures.1

pub says-returns-in-Name : goal.says-returns-in-Name
says-returns-in-Name t c =
    name_said _ _ c.args.row.now c.in-Name.is

pub says-returns-in-Null : goal.says-returns-in-Null
says-returns-in-Null t c =
    null_said _ c.args.row.now c.in-Null.is

pub says-returns-in_ok-column-in-Column : goal.says-returns-in_ok-column-in-Column
says-returns-in_ok-column-in-Column t c =
    column_said _ _ c.args.row.now _ c.in-Column.is c.in_ok-column-in-Column.ensures

pub says-returns-in_ok-copy-in-Text : goal.says-returns-in_ok-copy-in-Text
says-returns-in_ok-copy-in-Text t c =
    text_said _ _ _ c.args.row.now c.in-Text.is c.in_ok-copy-in-Text.ensures
