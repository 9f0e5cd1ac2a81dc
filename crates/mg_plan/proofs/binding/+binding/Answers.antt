use Rattle.std.proofs.Common.{ap, map, ◌∙◌}
use Rattle.std.proofs.lemmas.Result.{IfOk-from_err}
use Rattle.mg_expr.specs.Trees.{Tree, tree_of, part_tree}
use Rattle.mg_plan.specs.Binding.{bound, bound_part}
use Rattle.mg_plan.proofs.StepLemmas.{alike, alike_twice, mapped_all, mapped_twice_all}
use Rattle.mg_plan.proofs.BindingLemmas.{or_bound, and_bound, sum_bound, product_bound}
use Rattle.mg_plan.proofs.BoxLemmas.{not_bound, is_null_bound, is_not_null_bound, minus_bound, compare_bound}
use Rattle.mg_plan.proofs.LeafLemmas.{text_bound, null_bound, name_bound, column_bound}
use Rattle.mg_plan.proofs.binding.+binding.Goals as goal

pub bind_expr-returns-in_ok-bind_each-in-Or : goal.bind_expr-returns-in_ok-bind_each-in-Or
bind_expr-returns-in_ok-bind_each-in-Or t c =
    or_bound c.args.columns.now _ _ _ _ c.in-Or.is c.deref.ensures.value c.in_ok-bind_each-in-Or.ensures

pub bind_expr-returns-in_ok-bind_each-in-And : goal.bind_expr-returns-in_ok-bind_each-in-And
bind_expr-returns-in_ok-bind_each-in-And t c =
    and_bound c.args.columns.now _ _ _ _ c.in-And.is c.deref-in-And.ensures.value c.in_ok-bind_each-in-And.ensures

pub bind_expr-returns-in_ok-bind_parts-in-Sum : goal.bind_expr-returns-in_ok-bind_parts-in-Sum
bind_expr-returns-in_ok-bind_parts-in-Sum t c =
    sum_bound c.args.columns.now _ _ c.in-Sum.first _ c.in-Sum.parts _ _ c.in-Sum.is c.deref-in-Sum-2.ensures.value c.deref-in-Sum.ensures c.in_ok-first-in-Sum.ensures c.in_ok-bind_parts-in-Sum.ensures

pub bind_expr-returns-in_ok-bind_parts-in-Product : goal.bind_expr-returns-in_ok-bind_parts-in-Product
bind_expr-returns-in_ok-bind_parts-in-Product t c =
    product_bound c.args.columns.now _ _ c.in-Product.first _ c.in-Product.parts _ _ c.in-Product.is c.deref-in-Product-2.ensures.value c.deref-in-Product.ensures c.in_ok-first-in-Product.ensures c.in_ok-bind_parts-in-Product.ensures

pub bind_each-loop-part-preserved : goal.bind_each-loop-part-preserved
bind_each-loop-part-preserved t c =
    alike_twice tree_of (λ t. bound t c.args.columns.now) tree_of c.args.parts.now c.loop-part.part-index
    c.part-item.result _ _ _ c.loop-part-test.true c.part-item.is c.in_ok-bind_expr.ensures c.loop-part.invariant
    c.in_ok-push.ensures.items

pub bind_parts-loop-part-preserved : goal.bind_parts-loop-part-preserved
bind_parts-loop-part-preserved t c =
    alike part_tree (bound_part c.args.columns.now) c.args.parts.now c.loop-part.part-index c.part-item.result _ _ _
    c.loop-part-test.true c.part-item.is
    (ap (λ (t : Tree). (c.part-item.result.inverse, t)) c.in_ok-bind_expr.ensures) c.loop-part.invariant
    c.in_ok-push.ensures.items

pub bind_expr-returns-in_ok-bind_boxed-in-Not : goal.bind_expr-returns-in_ok-bind_boxed-in-Not
bind_expr-returns-in_ok-bind_boxed-in-Not t c =
    not_bound c.args.columns.now _ _ _ _ c.in-Not.is c.deref-in-Not.ensures c.in_ok-bind_boxed-in-Not.ensures

pub bind_expr-returns-in_ok-bind_boxed-in-IsNull : goal.bind_expr-returns-in_ok-bind_boxed-in-IsNull
bind_expr-returns-in_ok-bind_boxed-in-IsNull t c =
    is_null_bound c.args.columns.now _ _ _ _ c.in-IsNull.is c.deref-in-IsNull.ensures
    c.in_ok-bind_boxed-in-IsNull.ensures

pub bind_expr-returns-in_ok-bind_boxed-in-IsNotNull : goal.bind_expr-returns-in_ok-bind_boxed-in-IsNotNull
bind_expr-returns-in_ok-bind_boxed-in-IsNotNull t c =
    is_not_null_bound c.args.columns.now _ _ _ _ c.in-IsNotNull.is c.deref-in-IsNotNull.ensures
    c.in_ok-bind_boxed-in-IsNotNull.ensures

pub bind_expr-returns-in_ok-bind_boxed-in-Minus : goal.bind_expr-returns-in_ok-bind_boxed-in-Minus
bind_expr-returns-in_ok-bind_boxed-in-Minus t c =
    minus_bound c.args.columns.now _ _ _ _ c.in-Minus.is c.deref-in-Minus.ensures c.in_ok-bind_boxed-in-Minus.ensures

pub bind_expr-returns-in_ok-b-in-Compare : goal.bind_expr-returns-in_ok-b-in-Compare
bind_expr-returns-in_ok-b-in-Compare t c =
    compare_bound c.args.columns.now _ _ _ _ _ _ _ _ c.in-Compare.is c.deref-in-Compare.ensures
    c.deref-in-Compare-2.ensures
    c.in_ok-a-in-Compare.ensures c.in_ok-b-in-Compare.ensures

pub bind_expr-returns-in_err-bind_each-in-Or : goal.bind_expr-returns-in_err-bind_each-in-Or
bind_expr-returns-in_err-bind_each-in-Or t c = IfOk-from_err c.from_residual.result _ c.from_residual.ensures.0

pub bind_expr-returns-in_err-bind_each-in-And : goal.bind_expr-returns-in_err-bind_each-in-And
bind_expr-returns-in_err-bind_each-in-And t c =
    IfOk-from_err c.from_residual-in_err-bind_each-in-And.result _ c.from_residual-in_err-bind_each-in-And.ensures.0

pub bind_expr-returns-in_err-bind_boxed-in-Not : goal.bind_expr-returns-in_err-bind_boxed-in-Not
bind_expr-returns-in_err-bind_boxed-in-Not t c =
    IfOk-from_err c.from_residual-in_err-bind_boxed-in-Not.result _ c.from_residual-in_err-bind_boxed-in-Not.ensures.0

pub bind_expr-returns-in_err-a-in-Compare : goal.bind_expr-returns-in_err-a-in-Compare
bind_expr-returns-in_err-a-in-Compare t c =
    IfOk-from_err c.from_residual-in_err-a-in-Compare.result _ c.from_residual-in_err-a-in-Compare.ensures.0

pub bind_expr-returns-in_err-b-in-Compare : goal.bind_expr-returns-in_err-b-in-Compare
bind_expr-returns-in_err-b-in-Compare t c =
    IfOk-from_err c.from_residual-in_err-b-in-Compare.result _ c.from_residual-in_err-b-in-Compare.ensures.0

pub bind_expr-returns-in_err-bind_boxed-in-IsNull : goal.bind_expr-returns-in_err-bind_boxed-in-IsNull
bind_expr-returns-in_err-bind_boxed-in-IsNull t c = IfOk-from_err
    c.from_residual-in_err-bind_boxed-in-IsNull.result _ c.from_residual-in_err-bind_boxed-in-IsNull.ensures.0

pub bind_expr-returns-in_err-bind_boxed-in-IsNotNull : goal.bind_expr-returns-in_err-bind_boxed-in-IsNotNull
bind_expr-returns-in_err-bind_boxed-in-IsNotNull t c = IfOk-from_err
    c.from_residual-in_err-bind_boxed-in-IsNotNull.result _ c.from_residual-in_err-bind_boxed-in-IsNotNull.ensures.0

pub bind_expr-returns-in_err-first-in-Sum : goal.bind_expr-returns-in_err-first-in-Sum
bind_expr-returns-in_err-first-in-Sum t c =
    IfOk-from_err c.from_residual-in_err-first-in-Sum.result _ c.from_residual-in_err-first-in-Sum.ensures.0

pub bind_expr-returns-in_err-bind_parts-in-Sum : goal.bind_expr-returns-in_err-bind_parts-in-Sum
bind_expr-returns-in_err-bind_parts-in-Sum t c =
    IfOk-from_err c.from_residual-in_err-bind_parts-in-Sum.result _ c.from_residual-in_err-bind_parts-in-Sum.ensures.0

pub bind_expr-returns-in_err-first-in-Product : goal.bind_expr-returns-in_err-first-in-Product
bind_expr-returns-in_err-first-in-Product t c =
    IfOk-from_err c.from_residual-in_err-first-in-Product.result _ c.from_residual-in_err-first-in-Product.ensures.0

pub bind_expr-returns-in_err-bind_parts-in-Product : goal.bind_expr-returns-in_err-bind_parts-in-Product
bind_expr-returns-in_err-bind_parts-in-Product t c = IfOk-from_err
    c.from_residual-in_err-bind_parts-in-Product.result _ c.from_residual-in_err-bind_parts-in-Product.ensures.0

pub bind_expr-returns-in_err-bind_boxed-in-Minus : goal.bind_expr-returns-in_err-bind_boxed-in-Minus
bind_expr-returns-in_err-bind_boxed-in-Minus t c = IfOk-from_err
    c.from_residual-in_err-bind_boxed-in-Minus.result _ c.from_residual-in_err-bind_boxed-in-Minus.ensures.0

pub bind_expr-returns-in_err-copy-in-Text : goal.bind_expr-returns-in_err-copy-in-Text
bind_expr-returns-in_err-copy-in-Text t c =
    IfOk-from_err c.from_residual-in_err-copy-in-Text.result _ c.from_residual-in_err-copy-in-Text.ensures.0

pub bind_each-loop-part-init : goal.bind_each-loop-part-init
bind_each-loop-part-init t c = ap (map tree_of) c.new-bound.ensures.items

pub bind_each-returns : goal.bind_each-returns
bind_each-returns t c =
    mapped_twice_all (λ t. bound t c.args.columns.now) tree_of c.args.parts.now c.loop-part.part-index _
    c.loop-part-test.false
    c.loop-part.invariant

pub bind_each-returns-in_err-bind_expr : goal.bind_each-returns-in_err-bind_expr
bind_each-returns-in_err-bind_expr t c = IfOk-from_err c.from_residual.result _ c.from_residual.ensures.0

pub bind_each-returns-in_err-push : goal.bind_each-returns-in_err-push
bind_each-returns-in_err-push t c =
    IfOk-from_err c.from_residual-in_err-push.result _ c.from_residual-in_err-push.ensures.0

pub bind_parts-loop-part-init : goal.bind_parts-loop-part-init
bind_parts-loop-part-init t c = ap (map part_tree) c.new-bound.ensures.items

pub bind_parts-returns : goal.bind_parts-returns
bind_parts-returns t c =
    mapped_all (bound_part c.args.columns.now) c.args.parts.now c.loop-part.part-index _ c.loop-part-test.false
    c.loop-part.invariant

pub bind_parts-returns-in_err-bind_expr : goal.bind_parts-returns-in_err-bind_expr
bind_parts-returns-in_err-bind_expr t c = IfOk-from_err c.from_residual.result _ c.from_residual.ensures.0

pub bind_parts-returns-in_err-push : goal.bind_parts-returns-in_err-push
bind_parts-returns-in_err-push t c =
    IfOk-from_err c.from_residual-in_err-push.result _ c.from_residual-in_err-push.ensures.0

pub bind_boxed-returns : goal.bind_boxed-returns
bind_boxed-returns t c = ap tree_of c.in_ok-new.ensures.ok ∙ c.in_ok-bind_expr.ensures

pub bind_boxed-returns-in_err-bind_expr : goal.bind_boxed-returns-in_err-bind_expr
bind_boxed-returns-in_err-bind_expr t c = IfOk-from_err c.from_residual.result _ c.from_residual.ensures.0

pub bind_boxed-returns-in_err-new : goal.bind_boxed-returns-in_err-new
bind_boxed-returns-in_err-new t c =
    IfOk-from_err c.from_residual-in_err-new.result _ c.from_residual-in_err-new.ensures.0

pub bind_expr-returns-in_ok-copy-in-Text : goal.bind_expr-returns-in_ok-copy-in-Text
bind_expr-returns-in_ok-copy-in-Text t c = text_bound c.args.columns.now _ _ _ c.in-Text.is c.in_ok-copy-in-Text.ensures

pub bind_expr-returns-in-Null : goal.bind_expr-returns-in-Null
bind_expr-returns-in-Null t c = null_bound c.args.columns.now _ c.in-Null.is

pub bind_expr-returns-in-Name : goal.bind_expr-returns-in-Name
bind_expr-returns-in-Name t c = name_bound c.args.columns.now _ _ _ c.in-Name.is c.bind_name.ensures

pub bind_expr-returns-in-Column : goal.bind_expr-returns-in-Column
bind_expr-returns-in-Column t c = column_bound c.args.columns.now _ _ c.in-Column.is
