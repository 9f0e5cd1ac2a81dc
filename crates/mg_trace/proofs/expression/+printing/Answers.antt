use Rattle.std.proofs.Common.{refl}
use Rattle.std.specs.Prelude.{codes}
use Rattle.mg_trace.specs.PuttingLaws.{puts_as, puts_both, puts_none}
use Rattle.mg_trace.specs.Trees.{part_text}
use Rattle.mg_trace.specs.TreeLaws.{and_text, compare_text, is_not_null_text, exprs_laid, is_null_text, minus_text, not_text, or_text, product_text, sum_text}
use Rattle.mg_trace.proofs.LoopLemmas.{expr_put, exprs_put, item_put, items_put, one_before, open_put}
use Rattle.mg_trace.proofs.expression.+printing.Goals as goal

pub put_around-returns : goal.put_around-returns
put_around-returns t c =
    puts_both _ _ _ _ _ c.word.ensures (puts_both _ _ _ _ _ c.put_expr.ensures c.word-2.ensures)

pub put_expr-returns-in-Or : goal.put_expr-returns-in-Or
put_expr-returns-in-Or t c =
    puts_as _ _ _ _ (or_text _ c.in-Or.parts _ c.in-Or.is c.deref.ensures.value) c.put_all.ensures

pub put_expr-returns-in-And : goal.put_expr-returns-in-And
put_expr-returns-in-And t c =
    puts_as _ _ _ _ (and_text _ c.in-And.parts _ c.in-And.is c.deref-in-And.ensures.value) c.put_all-in-And.ensures

pub put_expr-returns-in-Not : goal.put_expr-returns-in-Not
put_expr-returns-in-Not t c =
    puts_as _ _ _ _ (not_text _ _ c.in-Not.part c.in-Not.is c.deref-in-Not.ensures) c.put_around.ensures

pub put_expr-returns-in-Compare : goal.put_expr-returns-in-Compare
put_expr-returns-in-Compare t c =
    puts_as _ _ _ _ (compare_text _ _ _ c.in-Compare.a c.in-Compare.b _ c.in-Compare.is c.deref-in-Compare.ensures
    c.deref-in-Compare-2.ensures) (puts_both _ _ _ _ _ (open_put _ _ (codes "(") _ c.put_around-in-Compare.ensures)
    (puts_both _ _ _ _ _ c.put_sign.ensures c.put_around-in-Compare-2.ensures))

pub put_expr-returns-in-IsNull : goal.put_expr-returns-in-IsNull
put_expr-returns-in-IsNull t c =
    puts_as _ _ _ _ (is_null_text _ _ c.in-IsNull.part c.in-IsNull.is c.deref-in-IsNull.ensures)
    c.put_around-in-IsNull.ensures

pub put_expr-returns-in-IsNotNull : goal.put_expr-returns-in-IsNotNull
put_expr-returns-in-IsNotNull t c =
    puts_as _ _ _ _ (is_not_null_text _ _ c.in-IsNotNull.part c.in-IsNotNull.is c.deref-in-IsNotNull.ensures)
    c.put_around-in-IsNotNull.ensures

pub put_expr-returns-in-Sum : goal.put_expr-returns-in-Sum
put_expr-returns-in-Sum t c =
    puts_as _ _ _ _ (sum_text _ _ c.in-Sum.first c.in-Sum.parts _ c.in-Sum.is c.deref-in-Sum.ensures
    c.deref-in-Sum-2.ensures.value) (puts_both _ _ _ _ _ (open_put _ _ (codes "(") _ c.put_around-in-Sum.ensures)
    c.put_parts.ensures)

pub put_expr-returns-in-Product : goal.put_expr-returns-in-Product
put_expr-returns-in-Product t c =
    puts_as _ _ _ _ (product_text _ _ c.in-Product.first c.in-Product.parts _ c.in-Product.is c.deref-in-Product.ensures
    c.deref-in-Product-2.ensures.value) (puts_both _ _ _ _ _ (open_put _ _ (codes "(") _ c.put_around-in-Product.ensures)
    c.put_parts-in-Product.ensures)

pub put_expr-returns-in-Minus : goal.put_expr-returns-in-Minus
put_expr-returns-in-Minus t c =
    puts_as _ _ _ _ (minus_text _ _ c.in-Minus.part c.in-Minus.is c.deref-in-Minus.ensures)
    c.put_around-in-Minus.ensures

pub put_all-loop-part-init : goal.put_all-loop-part-init
put_all-loop-part-init t c = (puts_none c.word.new.self, refl)

pub put_all-loop-part-preserved : goal.put_all-loop-part-preserved
put_all-loop-part-preserved t c = (
  expr_put c.args.between.now c.args.parts.now c.loop-part.part-index c.part-item.result c.loop-part.has_before
      c.word.new.self c.loop-part.trace c.put_next.new.trace c.loop-part-test.true c.part-item.is
      c.loop-part.invariant.1 c.loop-part.invariant.0 c.put_next.ensures,
  one_before c.loop-part.part-index,
)

pub put_all-returns : goal.put_all-returns
put_all-returns t c =
    puts_both _ _ _ _ _ c.word.ensures
    (puts_both _ _ _ _ _ (puts_as _ _ _ _ (exprs_laid c.args.between.now c.args.parts.now)
    (exprs_put c.args.between.now c.args.parts.now c.loop-part.part-index c.word.new.self c.loop-part.trace
    c.loop-part-test.false c.loop-part.invariant.0)) c.word-2.ensures)

pub put_parts-loop-part-init : goal.put_parts-loop-part-init
put_parts-loop-part-init t c = puts_none c.args.trace.now

pub put_parts-loop-part-preserved : goal.put_parts-loop-part-preserved
put_parts-loop-part-preserved t c =
    item_put (part_text c.args.plus.now c.args.minus.now) c.args.parts.now c.loop-part.part-index c.part-item.result
    c.args.trace.now c.loop-part.trace c.put_part.new.trace c.loop-part-test.true c.part-item.is
    c.loop-part.invariant c.put_part.ensures

pub put_parts-returns : goal.put_parts-returns
put_parts-returns t c =
    puts_both _ _ _ _ _ (items_put (part_text c.args.plus.now c.args.minus.now) c.args.parts.now
    c.loop-part.part-index c.args.trace.now c.loop-part.trace c.loop-part-test.false c.loop-part.invariant)
    c.word.ensures
