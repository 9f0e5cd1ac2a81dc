use Rattle.std.proofs.Common.{ap, sym, map, ◌∙◌, Bool, List, ℕ}
use Rattle.std.proofs.lemmas.List.{take_all}
use Rattle.mg_expr.specs.declared.expr.Expr.TheVariants as variants
use Rattle.mg_expr.specs.Trees.{Tree, part_tree, tree_of}
use Rattle.mg_expr.proofs.CopyLemmas.{or_copied, and_copied, sum_copied, product_copied, not_copied, is_null_copied, is_not_null_copied, minus_copied, compare_copied, none_copied, one_copied}
use Rattle.mg_expr.proofs.copying.+copying.Goals as goal

pub copy-returns-in_ok-copy_all-in-Or : goal.copy-returns-in_ok-copy_all-in-Or
copy-returns-in_ok-copy_all-in-Or t c =
    or_copied _ _ _ _ c.in-Or.is c.deref.ensures.value c.in_ok-copy_all-in-Or.ensures

pub copy-returns-in_ok-copy_all-in-And : goal.copy-returns-in_ok-copy_all-in-And
copy-returns-in_ok-copy_all-in-And t c =
    and_copied _ _ _ _ c.in-And.is c.deref-in-And.ensures.value c.in_ok-copy_all-in-And.ensures

pub copy-returns-in_ok-copy_parts-in-Sum : goal.copy-returns-in_ok-copy_parts-in-Sum
copy-returns-in_ok-copy_parts-in-Sum t c =
    sum_copied _ _ c.in-Sum.first _ c.in-Sum.parts _ _ c.in-Sum.is c.deref-in-Sum-2.ensures.value c.deref-in-Sum.ensures c.in_ok-first-in-Sum.ensures c.in_ok-copy_parts-in-Sum.ensures

pub copy-returns-in_ok-copy_parts-in-Product : goal.copy-returns-in_ok-copy_parts-in-Product
copy-returns-in_ok-copy_parts-in-Product t c =
    product_copied _ _ c.in-Product.first _ c.in-Product.parts _ _ c.in-Product.is c.deref-in-Product-2.ensures.value c.deref-in-Product.ensures c.in_ok-first-in-Product.ensures c.in_ok-copy_parts-in-Product.ensures

pub copy-returns-in_ok-copy_boxed-in-Not : goal.copy-returns-in_ok-copy_boxed-in-Not
copy-returns-in_ok-copy_boxed-in-Not t c =
    not_copied _ _ _ _ c.in-Not.is c.deref-in-Not.ensures c.in_ok-copy_boxed-in-Not.ensures

pub copy-returns-in_ok-copy_boxed-in-IsNull : goal.copy-returns-in_ok-copy_boxed-in-IsNull
copy-returns-in_ok-copy_boxed-in-IsNull t c =
    is_null_copied _ _ _ _ c.in-IsNull.is c.deref-in-IsNull.ensures c.in_ok-copy_boxed-in-IsNull.ensures

pub copy-returns-in_ok-copy_boxed-in-IsNotNull : goal.copy-returns-in_ok-copy_boxed-in-IsNotNull
copy-returns-in_ok-copy_boxed-in-IsNotNull t c =
    is_not_null_copied _ _ _ _ c.in-IsNotNull.is c.deref-in-IsNotNull.ensures c.in_ok-copy_boxed-in-IsNotNull.ensures

pub copy-returns-in_ok-copy_boxed-in-Minus : goal.copy-returns-in_ok-copy_boxed-in-Minus
copy-returns-in_ok-copy_boxed-in-Minus t c =
    minus_copied _ _ _ _ c.in-Minus.is c.deref-in-Minus.ensures c.in_ok-copy_boxed-in-Minus.ensures

pub copy-returns-in_ok-b-in-Compare : goal.copy-returns-in_ok-b-in-Compare
copy-returns-in_ok-b-in-Compare t c =
    compare_copied _ _ _ _ _ _ _ _ c.in-Compare.is c.deref-in-Compare.ensures c.deref-in-Compare-2.ensures c.in_ok-a-in-Compare.ensures c.in_ok-b-in-Compare.ensures

pub copy-returns-in-Null : goal.copy-returns-in-Null
copy-returns-in-Null t c =
    sym (ap tree_of c.in-Null.is)

pub copy-returns-in-Name : goal.copy-returns-in-Name
copy-returns-in-Name t c =
    sym (ap tree_of c.in-Name.is)

pub copy-returns-in-Column : goal.copy-returns-in-Column
copy-returns-in-Column t c =
    sym (ap tree_of c.in-Column.is)

pub copy-returns-in_err-copy_all-in-Or : goal.copy-returns-in_err-copy_all-in-Or
copy-returns-in_err-copy_all-in-Or t c =
    none_copied _ _ c.from_residual.ensures.0

pub copy-returns-in_err-copy_all-in-And : goal.copy-returns-in_err-copy_all-in-And
copy-returns-in_err-copy_all-in-And t c =
    none_copied _ _ c.from_residual-in_err-copy_all-in-And.ensures.0

pub copy-returns-in_err-copy_boxed-in-Not : goal.copy-returns-in_err-copy_boxed-in-Not
copy-returns-in_err-copy_boxed-in-Not t c =
    none_copied _ _ c.from_residual-in_err-copy_boxed-in-Not.ensures.0

pub copy-returns-in_err-a-in-Compare : goal.copy-returns-in_err-a-in-Compare
copy-returns-in_err-a-in-Compare t c =
    none_copied _ _ c.from_residual-in_err-a-in-Compare.ensures.0

pub copy-returns-in_err-b-in-Compare : goal.copy-returns-in_err-b-in-Compare
copy-returns-in_err-b-in-Compare t c =
    none_copied _ _ c.from_residual-in_err-b-in-Compare.ensures.0

pub copy-returns-in_err-copy_boxed-in-IsNull : goal.copy-returns-in_err-copy_boxed-in-IsNull
copy-returns-in_err-copy_boxed-in-IsNull t c =
    none_copied _ _ c.from_residual-in_err-copy_boxed-in-IsNull.ensures.0

pub copy-returns-in_err-copy_boxed-in-IsNotNull : goal.copy-returns-in_err-copy_boxed-in-IsNotNull
copy-returns-in_err-copy_boxed-in-IsNotNull t c =
    none_copied _ _ c.from_residual-in_err-copy_boxed-in-IsNotNull.ensures.0

pub copy-returns-in_err-first-in-Sum : goal.copy-returns-in_err-first-in-Sum
copy-returns-in_err-first-in-Sum t c =
    none_copied _ _ c.from_residual-in_err-first-in-Sum.ensures.0

pub copy-returns-in_err-copy_parts-in-Sum : goal.copy-returns-in_err-copy_parts-in-Sum
copy-returns-in_err-copy_parts-in-Sum t c =
    none_copied _ _ c.from_residual-in_err-copy_parts-in-Sum.ensures.0

pub copy-returns-in_err-first-in-Product : goal.copy-returns-in_err-first-in-Product
copy-returns-in_err-first-in-Product t c =
    none_copied _ _ c.from_residual-in_err-first-in-Product.ensures.0

pub copy-returns-in_err-copy_parts-in-Product : goal.copy-returns-in_err-copy_parts-in-Product
copy-returns-in_err-copy_parts-in-Product t c =
    none_copied _ _ c.from_residual-in_err-copy_parts-in-Product.ensures.0

pub copy-returns-in_err-copy_boxed-in-Minus : goal.copy-returns-in_err-copy_boxed-in-Minus
copy-returns-in_err-copy_boxed-in-Minus t c =
    none_copied _ _ c.from_residual-in_err-copy_boxed-in-Minus.ensures.0

pub copy-returns-in_err-copy-in-Text : goal.copy-returns-in_err-copy-in-Text
copy-returns-in_err-copy-in-Text t c =
    none_copied _ _ c.from_residual-in_err-copy-in-Text.ensures.0

pub copy_all-loop-part-init : goal.copy_all-loop-part-init
copy_all-loop-part-init t c =
    ap (map tree_of) c.new-copied.ensures.items

pub copy_all-loop-part-preserved : goal.copy_all-loop-part-preserved
copy_all-loop-part-preserved t c =
    one_copied tree_of c.args.parts.now c.loop-part.copied.items c.push.new.self.items c.loop-part.part-index
    c.part-item.result _ c.loop-part-test.true c.part-item.is c.loop-part.invariant c.in_ok-copy.ensures
    c.in_ok-push.ensures.items

pub copy_all-returns : goal.copy_all-returns
copy_all-returns t c =
    c.loop-part.invariant ∙ ap (map tree_of) (take_all c.loop-part.part-index c.args.parts.now c.loop-part-test.false)

pub copy_all-returns-in_err-copy : goal.copy_all-returns-in_err-copy
copy_all-returns-in_err-copy t c =
    none_copied _ _ c.from_residual.ensures.0

pub copy_all-returns-in_err-push : goal.copy_all-returns-in_err-push
copy_all-returns-in_err-push t c =
    none_copied _ _ c.from_residual-in_err-push.ensures.0

pub copy_parts-loop-part-init : goal.copy_parts-loop-part-init
copy_parts-loop-part-init t c =
    ap (map part_tree) c.new-copied.ensures.items

pub copy_parts-loop-part-preserved : goal.copy_parts-loop-part-preserved
copy_parts-loop-part-preserved t c =
    one_copied part_tree c.args.parts.now c.loop-part.copied.items c.push.new.self.items c.loop-part.part-index
    c.part-item.result _ c.loop-part-test.true c.part-item.is c.loop-part.invariant (ap (λ (x : Tree).
    (c.part-item.result.inverse, x)) c.in_ok-copy.ensures) c.in_ok-push.ensures.items

pub copy_parts-returns : goal.copy_parts-returns
copy_parts-returns t c =
    c.loop-part.invariant ∙ ap (map part_tree) (take_all c.loop-part.part-index c.args.parts.now
    c.loop-part-test.false)

pub copy_parts-returns-in_err-copy : goal.copy_parts-returns-in_err-copy
copy_parts-returns-in_err-copy t c =
    none_copied _ _ c.from_residual.ensures.0

pub copy_parts-returns-in_err-push : goal.copy_parts-returns-in_err-push
copy_parts-returns-in_err-push t c =
    none_copied _ _ c.from_residual-in_err-push.ensures.0

pub copy_boxed-returns-in_err-copy : goal.copy_boxed-returns-in_err-copy
copy_boxed-returns-in_err-copy t c =
    none_copied _ _ c.from_residual.ensures.0

pub copy_boxed-returns-in_err-new : goal.copy_boxed-returns-in_err-new
copy_boxed-returns-in_err-new t c =
    none_copied _ _ c.from_residual-in_err-new.ensures.0

pub copy_boxed-returns : goal.copy_boxed-returns
copy_boxed-returns t c =
    ap tree_of c.in_ok-new.ensures.ok ∙ c.in_ok-copy.ensures

pub copy-returns-in_ok-copy-in-Text : goal.copy-returns-in_ok-copy-in-Text
copy-returns-in_ok-copy-in-Text t c =
    ap (λ (text : List ℕ). tree_of (variants.Text text)) c.in_ok-copy-in-Text.ensures ∙ sym (ap tree_of c.in-Text.is)
