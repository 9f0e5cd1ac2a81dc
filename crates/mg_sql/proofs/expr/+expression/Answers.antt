use Rattle.std.proofs.Common.{◌≡◌, ◌≢◌, ◌<◌, ℕ, zero, suc, Bool, true, false, List, [], ◌∷◌, ◌++◌, map, ◌+◌, ◌-◌, ◌*◌, ◌≤◌, length, Some, None, Ok, Err, refl, sym, ◌∙◌, ap, subst, arith}
use Rattle.mg_expr.specs.Trees.{Tree, Minus, Not, Null, IsNull, IsNotNull, Compare, Integer, Text, Name, tree_of, part_tree}
use Rattle.mg_sql.specs.declared.token.Kind.TheVariants as kinds
use Rattle.mg_sql.specs.Tokens.{token}
use Rattle.mg_sql.specs.Lexing.{Lexes}
use Rattle.mg_sql.specs.Grammar.{Factor, Term, Sums, Test, Neg, Conj, Expr}
use Rattle.mg_sql.specs.Reading.{IsReady, Keeps, Reads, Refuses, Told, One, IsOpening, ahead}
use Rattle.mg_sql.specs.Ends.{Ends}
use Rattle.mg_sql.proofs.ExprParts as parts
use Rattle.mg_sql.specs.Ends.{binds}
use Rattle.mg_sql.proofs.Refusing.{fails, reads_one}
use Rattle.mg_sql.proofs.Parting.{is_bare, second_fails, second_on, second_read}
use Rattle.mg_sql.proofs.MemoryTold.{memory_told}
use Rattle.mg_sql.proofs.Steps.{kept, kept_on, one_read, moved_reads, moved_refuses, nearer, syntax_told, deep_told, ahead_is, binds_six, not_times, not_adds, not_tested, not_and, not_or, level_of, none_of, neg_told}
use Rattle.mg_sql.proofs.TreeSteps.{tree_of_minus, tree_of_not, tree_of_is_null, tree_of_is_not_null, tree_of_compare, tree_of_null, tree_of_integer, tree_of_text, tree_of_name, first_part, more_parts, more_signed, not_nil, and_tree, or_tree}
use Rattle.std.proofs.lemmas.Result.{err_from_is_err_and}
use Rattle.mg_sql.proofs.expr.+expression.Goals as goal

pub conj-returns-in_err-first-clause-keeps : goal.conj-returns-in_err-first-clause-keeps
conj-returns-in_err-first-clause-keeps t c = c.in_err-first.ensures.keeps

pub conj-returns-in_err-first-clause-told : goal.conj-returns-in_err-first-clause-told
conj-returns-in_err-first-clause-told t c =
    let p = err_from_is_err_and c.from_residual.result c.from_residual.ensures.1 in rw (p.1, p.2)
    (fails tree_of tree_of Neg Conj 3 2 c.args.levels c.args.levels c.args.p.now c.args.p.now c.neg.new.p (λ always r. parts.conj_refuses r) _ c.in_err-first.ensures.told)

pub conj-returns-then-not-is-clause-keeps : goal.conj-returns-then-not-is-clause-keeps
conj-returns-then-not-is-clause-keeps t c = c.in_ok-first.ensures.keeps

pub conj-returns-then-not-is-clause-told : goal.conj-returns-then-not-is-clause-told
conj-returns-then-not-is-clause-told t c =
    (parts.conj_done (parts.conj_first c.in_ok-first.ensures.told.0), not_and c.neg.new.p.kind c.if-not-is.ensures c.in_ok-first.ensures.told.1)

pub conj-loop-p-init : goal.conj-loop-p-init
conj-loop-p-init t c =
    record {
      keeps = c.in_ok-first.ensures.keeps;
      first = tree_of c.in_ok-first.first;
      more = [];
      parts = first_part c.new-parts.result.items c.push.new.self.items c.in_ok-first.first c.in_ok-push.ensures.items c.new-parts.ensures.items;
      read = parts.conj_first c.in_ok-first.ensures.told.0;
      some = λ h. c.if-not-is.ensures;
      ends = c.in_ok-first.ensures.told.1;
    }

pub conj-returns-in_err-part-clause-keeps : goal.conj-returns-in_err-part-clause-keeps
conj-returns-in_err-part-clause-keeps t c = kept_on _ _ _ (kept_on _ _ _ c.loop-p.invariant.keeps c.advance.ensures.keeps) c.in_err-part.ensures.keeps

pub conj-returns-in_err-part-clause-told : goal.conj-returns-in_err-part-clause-told
conj-returns-in_err-part-clause-told t c =
    let p = err_from_is_err_and c.from_residual-in_err-part.result c.from_residual-in_err-part.ensures.1 in rw (p.1, p.2)
    (fails tree_of tree_of Neg Conj 3 2 c.args.levels c.args.levels c.args.p.now c.advance.new.self c.neg-in-loop-p.new.p (λ always r. parts.conj_refuses_more (parts.conj_sign refl c.loop-p.invariant.read (moved_reads c.args.p.now c.loop-p.p c.loop-p.invariant.keeps (one_read c.loop-p.p c.advance.new.self c.args.levels c.loop-p-test.ensures c.advance.ensures.token)))
    (moved_refuses c.args.p.now c.advance.new.self (kept_on c.args.p.now c.loop-p.p c.advance.new.self c.loop-p.invariant.keeps c.advance.ensures.keeps) r)) _ c.in_err-part.ensures.told)

pub conj-loop-p-smaller : goal.conj-loop-p-smaller
conj-loop-p-smaller t c =
    nearer c.loop-p.p c.advance.new.self c.neg-in-loop-p.new.p (subst (λ k. 0 < binds k) (sym c.loop-p-test.ensures) (omega arith)) c.loop-p.invariant.keeps.ready c.advance.ensures.behind c.advance.ensures.keeps c.in_ok-part.ensures.keeps

pub conj-loop-p-preserved : goal.conj-loop-p-preserved
conj-loop-p-preserved t c =
    record {
      keeps = kept_on c.args.p.now c.advance.new.self c.neg-in-loop-p.new.p (kept_on c.args.p.now c.loop-p.p c.advance.new.self c.loop-p.invariant.keeps c.advance.ensures.keeps) c.in_ok-part.ensures.keeps;
      first = c.loop-p.invariant.first;
      more = c.loop-p.invariant.more ++ tree_of c.in_ok-part.part ∷ [];
      parts = more_parts c.loop-p.parts.items c.push-in-loop-p.new.self.items c.in_ok-part.part _ _ c.in_ok-push-2.ensures.items c.loop-p.invariant.parts;
      read = parts.conj_more (parts.conj_sign refl c.loop-p.invariant.read (moved_reads c.args.p.now c.loop-p.p c.loop-p.invariant.keeps (one_read c.loop-p.p c.advance.new.self c.args.levels c.loop-p-test.ensures c.advance.ensures.token))) (moved_reads c.args.p.now c.advance.new.self (kept_on c.args.p.now c.loop-p.p c.advance.new.self c.loop-p.invariant.keeps c.advance.ensures.keeps) c.in_ok-part.ensures.told.0);
      some = λ h. absurd (not_nil c.loop-p.invariant.more (tree_of c.in_ok-part.part) h);
      ends = c.in_ok-part.ensures.told.1;
    }

pub conj-returns-clause-keeps : goal.conj-returns-clause-keeps
conj-returns-clause-keeps t c = c.loop-p.invariant.keeps

pub conj-returns-clause-told : goal.conj-returns-clause-told
conj-returns-clause-told t c = (
  subst (λ u. Reads Conj c.args.levels u c.args.p.now.text.now c.args.p.now.at c.loop-p.p.at)
      (and_tree c.loop-p.parts c.loop-p.invariant.first c.loop-p.invariant.more c.loop-p.invariant.parts (λ h. c.loop-p-test.ensures (c.loop-p.invariant.some h)))
      (parts.conj_done c.loop-p.invariant.read),
  not_and c.loop-p.p.kind c.loop-p-test.ensures c.loop-p.invariant.ends,
)

pub expr-returns-in_err-first-clause-keeps : goal.expr-returns-in_err-first-clause-keeps
expr-returns-in_err-first-clause-keeps t c = c.in_err-first.ensures.keeps

pub expr-returns-in_err-first-clause-told : goal.expr-returns-in_err-first-clause-told
expr-returns-in_err-first-clause-told t c =
    let p = err_from_is_err_and c.from_residual.result c.from_residual.ensures.1 in rw (p.1, p.2)
    (fails tree_of tree_of Conj Expr 2 1 c.args.levels c.args.levels c.args.p.now c.args.p.now c.conj.new.p (λ always r. parts.expr_refuses r) _ c.in_err-first.ensures.told)

pub expr-returns-then-not-is-clause-keeps : goal.expr-returns-then-not-is-clause-keeps
expr-returns-then-not-is-clause-keeps t c = c.in_ok-first.ensures.keeps

pub expr-returns-then-not-is-clause-told : goal.expr-returns-then-not-is-clause-told
expr-returns-then-not-is-clause-told t c =
    (parts.expr_done (parts.expr_first c.in_ok-first.ensures.told.0), not_or c.conj.new.p.kind c.if-not-is.ensures c.in_ok-first.ensures.told.1)

pub expr-loop-p-init : goal.expr-loop-p-init
expr-loop-p-init t c =
    record {
      keeps = c.in_ok-first.ensures.keeps;
      first = tree_of c.in_ok-first.first;
      more = [];
      parts = first_part c.new-parts.result.items c.push.new.self.items c.in_ok-first.first c.in_ok-push.ensures.items c.new-parts.ensures.items;
      read = parts.expr_first c.in_ok-first.ensures.told.0;
      some = λ h. c.if-not-is.ensures;
      ends = c.in_ok-first.ensures.told.1;
    }

pub expr-returns-in_err-part-clause-keeps : goal.expr-returns-in_err-part-clause-keeps
expr-returns-in_err-part-clause-keeps t c = kept_on _ _ _ (kept_on _ _ _ c.loop-p.invariant.keeps c.advance.ensures.keeps) c.in_err-part.ensures.keeps

pub expr-returns-in_err-part-clause-told : goal.expr-returns-in_err-part-clause-told
expr-returns-in_err-part-clause-told t c =
    let p = err_from_is_err_and c.from_residual-in_err-part.result c.from_residual-in_err-part.ensures.1 in rw (p.1, p.2)
    (fails tree_of tree_of Conj Expr 2 1 c.args.levels c.args.levels c.args.p.now c.advance.new.self c.conj-in-loop-p.new.p (λ always r. parts.expr_refuses_more (parts.expr_sign refl c.loop-p.invariant.read (moved_reads c.args.p.now c.loop-p.p c.loop-p.invariant.keeps (one_read c.loop-p.p c.advance.new.self c.args.levels c.loop-p-test.ensures c.advance.ensures.token)))
    (moved_refuses c.args.p.now c.advance.new.self (kept_on c.args.p.now c.loop-p.p c.advance.new.self c.loop-p.invariant.keeps c.advance.ensures.keeps) r)) _ c.in_err-part.ensures.told)

pub expr-loop-p-smaller : goal.expr-loop-p-smaller
expr-loop-p-smaller t c =
    nearer c.loop-p.p c.advance.new.self c.conj-in-loop-p.new.p (subst (λ k. 0 < binds k) (sym c.loop-p-test.ensures) (omega arith)) c.loop-p.invariant.keeps.ready c.advance.ensures.behind c.advance.ensures.keeps c.in_ok-part.ensures.keeps

pub expr-loop-p-preserved : goal.expr-loop-p-preserved
expr-loop-p-preserved t c =
    record {
      keeps = kept_on c.args.p.now c.advance.new.self c.conj-in-loop-p.new.p (kept_on c.args.p.now c.loop-p.p c.advance.new.self c.loop-p.invariant.keeps c.advance.ensures.keeps) c.in_ok-part.ensures.keeps;
      first = c.loop-p.invariant.first;
      more = c.loop-p.invariant.more ++ tree_of c.in_ok-part.part ∷ [];
      parts = more_parts c.loop-p.parts.items c.push-in-loop-p.new.self.items c.in_ok-part.part _ _ c.in_ok-push-2.ensures.items c.loop-p.invariant.parts;
      read = parts.expr_more (parts.expr_sign refl c.loop-p.invariant.read (moved_reads c.args.p.now c.loop-p.p c.loop-p.invariant.keeps (one_read c.loop-p.p c.advance.new.self c.args.levels c.loop-p-test.ensures c.advance.ensures.token))) (moved_reads c.args.p.now c.advance.new.self (kept_on c.args.p.now c.loop-p.p c.advance.new.self c.loop-p.invariant.keeps c.advance.ensures.keeps) c.in_ok-part.ensures.told.0);
      some = λ h. absurd (not_nil c.loop-p.invariant.more (tree_of c.in_ok-part.part) h);
      ends = c.in_ok-part.ensures.told.1;
    }

pub expr-returns-clause-keeps : goal.expr-returns-clause-keeps
expr-returns-clause-keeps t c = c.loop-p.invariant.keeps

pub expr-returns-clause-told : goal.expr-returns-clause-told
expr-returns-clause-told t c = (
  subst (λ u. Reads Expr c.args.levels u c.args.p.now.text.now c.args.p.now.at c.loop-p.p.at)
      (or_tree c.loop-p.parts c.loop-p.invariant.first c.loop-p.invariant.more c.loop-p.invariant.parts (λ h. c.loop-p-test.ensures (c.loop-p.invariant.some h)))
      (parts.expr_done c.loop-p.invariant.read),
  not_or c.loop-p.p.kind c.loop-p-test.ensures c.loop-p.invariant.ends,
)

pub factor-leaf-requires-clause-bare : goal.factor-leaf-requires-clause-bare
factor-leaf-requires-clause-bare t c = is_bare c.args.p.now.kind c.in_default.not-Minus c.in_default.not-Open

pub negated-returns-then-levels-eq0-clause-told : goal.negated-returns-then-levels-eq0-clause-told
negated-returns-then-levels-eq0-clause-told t c =
    deep_told tree_of Factor 6 c.args.levels c.args.p.now _ c.too_deep.ensures (subst (λ k. IsOpening k) (sym c.requires.minus) tt)
    (ahead_is (λ x. Refuses Factor 6 c.args.levels false x c.args.p.now.text.now c.args.p.now.at c.args.p.now.at) c.args.p.now c.requires.minus (rw c.if-levels-eq0.true parts.minus_deep))

pub negated-returns-in_err-value-clause-keeps : goal.negated-returns-in_err-value-clause-keeps
negated-returns-in_err-value-clause-keeps t c = kept_on _ _ _ c.advance.ensures.keeps c.in_err-value.ensures.keeps

pub negated-returns-in_err-value-clause-told : goal.negated-returns-in_err-value-clause-told
negated-returns-in_err-value-clause-told t c =
    let p = err_from_is_err_and c.from_residual.result c.from_residual.ensures.1 in rw (p.1, p.2)
    (fails tree_of tree_of Factor Factor 6 6 (c.args.levels - 1) c.args.levels c.args.p.now c.advance.new.self c.factor.new.p (λ always r. subst (λ n. Refuses Factor 6 n always (ahead c.factor.new.p) c.args.p.now.text.now c.args.p.now.at c.factor.new.p.at) (level_of c.args.levels c.if-levels-eq0.false)
    (parts.minus_refuses (one_read c.args.p.now c.advance.new.self (c.args.levels - 1) c.requires.minus c.advance.ensures.token) (moved_refuses c.args.p.now c.advance.new.self c.advance.ensures.keeps r))) _ c.in_err-value.ensures.told)

pub negated-returns-clause-keeps : goal.negated-returns-clause-keeps
negated-returns-clause-keeps t c = kept_on _ _ _ c.advance.ensures.keeps c.in_ok-value.ensures.keeps

pub negated-returns-clause-told : goal.negated-returns-clause-told
negated-returns-clause-told t c = (
  rw (tree_of_minus c.in_ok-new.field-0, c.in_ok-new.ensures.ok)
      (subst (λ n. Reads Factor n (Minus (tree_of c.in_ok-value.value)) c.args.p.now.text.now c.args.p.now.at c.factor.new.p.at) (level_of c.args.levels c.if-levels-eq0.false)
      (parts.minus_read (one_read c.args.p.now c.advance.new.self (c.args.levels - 1) c.requires.minus c.advance.ensures.token) (moved_reads c.args.p.now c.advance.new.self c.advance.ensures.keeps c.in_ok-value.ensures.told.0))),
  binds_six c.factor.new.p.kind,
)

pub enclosed-returns-then-levels-eq0-clause-told : goal.enclosed-returns-then-levels-eq0-clause-told
enclosed-returns-then-levels-eq0-clause-told t c =
    deep_told tree_of Factor 6 c.args.levels c.args.p.now _ c.too_deep.ensures (subst (λ k. IsOpening k) (sym c.requires.open) tt)
    (ahead_is (λ x. Refuses Factor 6 c.args.levels false x c.args.p.now.text.now c.args.p.now.at c.args.p.now.at) c.args.p.now c.requires.open (rw c.if-levels-eq0.true parts.parens_deep))

pub enclosed-returns-in_err-inner-clause-keeps : goal.enclosed-returns-in_err-inner-clause-keeps
enclosed-returns-in_err-inner-clause-keeps t c = kept_on _ _ _ c.advance.ensures.keeps c.in_err-inner.ensures.keeps

pub enclosed-returns-in_err-inner-clause-told : goal.enclosed-returns-in_err-inner-clause-told
enclosed-returns-in_err-inner-clause-told t c =
    let p = err_from_is_err_and c.from_residual.result c.from_residual.ensures.1 in rw (p.1, p.2)
    (fails tree_of tree_of Expr Factor 1 6 (c.args.levels - 1) c.args.levels c.args.p.now c.advance.new.self c.expr.new.p (λ always r. subst (λ n. Refuses Factor 6 n always (ahead c.expr.new.p) c.args.p.now.text.now c.args.p.now.at c.expr.new.p.at) (level_of c.args.levels c.if-levels-eq0.false)
    (parts.parens_inner_refuses (one_read c.args.p.now c.advance.new.self (c.args.levels - 1) c.requires.open c.advance.ensures.token) (moved_refuses c.args.p.now c.advance.new.self c.advance.ensures.keeps r))) _ c.in_err-inner.ensures.told)

pub enclosed-returns-in_err-expect-clause-keeps : goal.enclosed-returns-in_err-expect-clause-keeps
enclosed-returns-in_err-expect-clause-keeps t c = kept_on _ _ _ (kept_on _ _ _ c.advance.ensures.keeps c.in_ok-inner.ensures.keeps) c.in_err-expect.ensures.keeps

pub enclosed-returns-in_err-expect-clause-told : goal.enclosed-returns-in_err-expect-clause-told
enclosed-returns-in_err-expect-clause-told t c =
    let p = err_from_is_err_and c.from_residual-in_err-expect.result c.from_residual-in_err-expect.ensures.1 in rw (p.1, p.2)
    (let h = c.in_err-expect.ensures.told in subst (λ q. Told tree_of Factor 6 c.args.levels c.args.p.now q (Err c.in_err-expect.field-0.0)) (sym h.2)
    (syntax_told tree_of Factor 6 c.args.levels c.args.p.now c.expr.new.p _ h.0 (subst (λ n. Refuses Factor 6 n true (ahead c.expr.new.p) c.args.p.now.text.now c.args.p.now.at c.expr.new.p.at) (level_of c.args.levels c.if-levels-eq0.false)
    (parts.parens_unclosed (parts.opened_read (one_read c.args.p.now c.advance.new.self (c.args.levels - 1) c.requires.open c.advance.ensures.token) (moved_reads c.args.p.now c.advance.new.self c.advance.ensures.keeps c.in_ok-inner.ensures.told.0)) h.1 c.in_ok-inner.ensures.told.1))))

pub enclosed-returns-clause-keeps : goal.enclosed-returns-clause-keeps
enclosed-returns-clause-keeps t c = kept_on _ _ _ (kept_on _ _ _ c.advance.ensures.keeps c.in_ok-inner.ensures.keeps) c.in_ok-expect.ensures.keeps

pub enclosed-returns-clause-told : goal.enclosed-returns-clause-told
enclosed-returns-clause-told t c =
    let h = c.in_ok-expect.ensures.told in (
      subst (λ n. Reads Factor n (tree_of c.in_ok-inner.inner) c.args.p.now.text.now c.args.p.now.at c.expect.new.self.at) (level_of c.args.levels c.if-levels-eq0.false)
          (parts.parens_read (parts.opened_read (one_read c.args.p.now c.advance.new.self (c.args.levels - 1) c.requires.open c.advance.ensures.token) (moved_reads c.args.p.now c.advance.new.self c.advance.ensures.keeps c.in_ok-inner.ensures.told.0)) (moved_reads c.args.p.now c.expr.new.p (kept_on c.args.p.now c.advance.new.self c.expr.new.p c.advance.ensures.keeps c.in_ok-inner.ensures.keeps)
          (one_read c.expr.new.p c.expect.new.self (c.args.levels - 1) h.0 h.1))),
      binds_six c.expect.new.self.kind,
    )

pub neg-returns-then-not-is-clause-keeps : goal.neg-returns-then-not-is-clause-keeps
neg-returns-then-not-is-clause-keeps t c = c.test.ensures.keeps

pub neg-returns-then-not-is-clause-told : goal.neg-returns-then-not-is-clause-told
neg-returns-then-not-is-clause-told t c =
    neg_told c.args.levels c.args.p.now c.test.new.p c.if-not-is.ensures c.requires.ready.stands c.test.ensures.keeps.ready.stands c.test.ensures.keeps.text c.test.result c.test.ensures.told

pub neg-returns-then-levels-eq0-clause-told : goal.neg-returns-then-levels-eq0-clause-told
neg-returns-then-levels-eq0-clause-told t c =
    deep_told tree_of Neg 3 c.args.levels c.args.p.now _ c.too_deep.ensures (subst (λ k. IsOpening k) (sym c.if-not-is.ensures) tt)
    (ahead_is (λ x. Refuses Neg 3 c.args.levels false x c.args.p.now.text.now c.args.p.now.at c.args.p.now.at) c.args.p.now c.if-not-is.ensures (rw c.if-levels-eq0.true parts.not_deep))

pub neg-returns-in_err-part-clause-keeps : goal.neg-returns-in_err-part-clause-keeps
neg-returns-in_err-part-clause-keeps t c = kept_on _ _ _ c.advance.ensures.keeps c.in_err-part.ensures.keeps

pub neg-returns-in_err-part-clause-told : goal.neg-returns-in_err-part-clause-told
neg-returns-in_err-part-clause-told t c =
    let p = err_from_is_err_and c.from_residual.result c.from_residual.ensures.1 in rw (p.1, p.2)
    (fails tree_of tree_of Neg Neg 3 3 (c.args.levels - 1) c.args.levels c.args.p.now c.advance.new.self c.neg.new.p (λ always r. subst (λ n. Refuses Neg 3 n always (ahead c.neg.new.p) c.args.p.now.text.now c.args.p.now.at c.neg.new.p.at) (level_of c.args.levels c.if-levels-eq0.false)
    (parts.not_refuses (one_read c.args.p.now c.advance.new.self (c.args.levels - 1) c.if-not-is.ensures c.advance.ensures.token) (moved_refuses c.args.p.now c.advance.new.self c.advance.ensures.keeps r))) _ c.in_err-part.ensures.told)

pub neg-returns-clause-keeps : goal.neg-returns-clause-keeps
neg-returns-clause-keeps t c = kept_on _ _ _ c.advance.ensures.keeps c.in_ok-part.ensures.keeps

pub neg-returns-clause-told : goal.neg-returns-clause-told
neg-returns-clause-told t c = (
  rw (tree_of_not c.in_ok-new.field-0, c.in_ok-new.ensures.ok)
      (subst (λ n. Reads Neg n (Not (tree_of c.in_ok-part.part)) c.args.p.now.text.now c.args.p.now.at c.neg.new.p.at) (level_of c.args.levels c.if-levels-eq0.false)
      (parts.not_read (one_read c.args.p.now c.advance.new.self (c.args.levels - 1) c.if-not-is.ensures c.advance.ensures.token) (moved_reads c.args.p.now c.advance.new.self c.advance.ensures.keeps c.in_ok-part.ensures.told.0))),
  c.in_ok-part.ensures.told.1,
)

pub sum-returns-in_err-first-clause-keeps : goal.sum-returns-in_err-first-clause-keeps
sum-returns-in_err-first-clause-keeps t c = c.in_err-first.ensures.keeps

pub sum-returns-in_err-first-clause-told : goal.sum-returns-in_err-first-clause-told
sum-returns-in_err-first-clause-told t c =
    let p = err_from_is_err_and c.from_residual.result c.from_residual.ensures.1 in rw (p.1, p.2)
    (fails tree_of tree_of Term Sums 5 4 c.args.levels c.args.levels c.args.p.now c.args.p.now c.term.new.p (λ always r. parts.sums_refuses r) _ c.in_err-first.ensures.told)

pub sum-loop-inverse-init : goal.sum-loop-inverse-init
sum-loop-inverse-init t c =
    record {
      keeps = c.in_ok-first.ensures.keeps;
      read = subst (λ ps. Reads parts.SumsSoFar c.args.levels (tree_of c.in_ok-first.first, map part_tree ps) c.args.p.now.text.now c.args.p.now.at c.term.new.p.at) (sym c.new-parts.ensures.items)
          (parts.sums_first c.in_ok-first.ensures.told.0);
      ends = c.in_ok-first.ensures.told.1;
    }

pub sum-returns-in_err-value-clause-keeps : goal.sum-returns-in_err-value-clause-keeps
sum-returns-in_err-value-clause-keeps t c = kept_on _ _ _ (kept_on _ _ _ c.loop-inverse.invariant.keeps c.advance.ensures.keeps) c.in_err-value.ensures.keeps

pub sum-returns-in_err-value-clause-told : goal.sum-returns-in_err-value-clause-told
sum-returns-in_err-value-clause-told t c =
    let p = err_from_is_err_and c.from_residual-in_err-value.result c.from_residual-in_err-value.ensures.1 in rw (p.1, p.2)
    (fails tree_of tree_of Term Sums 5 4 c.args.levels c.args.levels c.args.p.now c.advance.new.self c.term-in-Some.new.p (λ always r. parts.sums_refuses_more (parts.sums_sign (sym c.in-Some.ensures) c.loop-inverse.invariant.read (moved_reads c.args.p.now c.loop-inverse.p c.loop-inverse.invariant.keeps (one_read c.loop-inverse.p c.advance.new.self c.args.levels refl c.advance.ensures.token)))
    (moved_refuses c.args.p.now c.advance.new.self (kept_on c.args.p.now c.loop-inverse.p c.advance.new.self c.loop-inverse.invariant.keeps c.advance.ensures.keeps) r)) _ c.in_err-value.ensures.told)

pub sum-loop-inverse-smaller : goal.sum-loop-inverse-smaller
sum-loop-inverse-smaller t c =
    nearer c.loop-inverse.p c.advance.new.self c.term-in-Some.new.p (omega (arith, parts.adds_binds_in c.loop-inverse.p.kind _ (sym c.in-Some.ensures))) c.loop-inverse.invariant.keeps.ready c.advance.ensures.behind c.advance.ensures.keeps c.in_ok-value.ensures.keeps

pub sum-loop-inverse-preserved : goal.sum-loop-inverse-preserved
sum-loop-inverse-preserved t c =
    record {
      keeps = kept_on c.args.p.now c.advance.new.self c.term-in-Some.new.p (kept_on c.args.p.now c.loop-inverse.p c.advance.new.self c.loop-inverse.invariant.keeps c.advance.ensures.keeps) c.in_ok-value.ensures.keeps;
      read = subst (λ ps. Reads parts.SumsSoFar c.args.levels (tree_of c.loop-inverse.first-1, ps) c.args.p.now.text.now c.args.p.now.at c.term-in-Some.new.p.at)
          (sym (more_signed c.loop-inverse.parts.items c.push.new.self.items c.in-Some.inverse c.in_ok-value.value c.in_ok-push.ensures.items))
          (parts.sums_more (parts.sums_sign (sym c.in-Some.ensures) c.loop-inverse.invariant.read (moved_reads c.args.p.now c.loop-inverse.p c.loop-inverse.invariant.keeps (one_read c.loop-inverse.p c.advance.new.self c.args.levels refl c.advance.ensures.token))) (moved_reads c.args.p.now c.advance.new.self (kept_on c.args.p.now c.loop-inverse.p c.advance.new.self c.loop-inverse.invariant.keeps c.advance.ensures.keeps) c.in_ok-value.ensures.told.0));
      ends = c.in_ok-value.ensures.told.1;
    }

pub sum-returns-clause-keeps : goal.sum-returns-clause-keeps
sum-returns-clause-keeps t c = c.loop-inverse.invariant.keeps

pub sum-returns-clause-told : goal.sum-returns-clause-told
sum-returns-clause-told t c = (
  subst (λ u. Reads Sums c.args.levels u c.args.p.now.text.now c.args.p.now.at c.loop-inverse.p.at) (sym c.in_ok-summed.ensures)
      (parts.sums_done c.loop-inverse.invariant.read),
  not_adds c.loop-inverse.p.kind (sym c.adds.ensures ∙ none_of c.adds.result c.in_default.not-Some) c.loop-inverse.invariant.ends,
)

pub term-returns-in_err-first-clause-keeps : goal.term-returns-in_err-first-clause-keeps
term-returns-in_err-first-clause-keeps t c = c.in_err-first.ensures.keeps

pub term-returns-in_err-first-clause-told : goal.term-returns-in_err-first-clause-told
term-returns-in_err-first-clause-told t c =
    let p = err_from_is_err_and c.from_residual.result c.from_residual.ensures.1 in rw (p.1, p.2)
    (fails tree_of tree_of Factor Term 6 5 c.args.levels c.args.levels c.args.p.now c.args.p.now c.factor.new.p (λ always r. parts.term_refuses r) _ c.in_err-first.ensures.told)

pub term-loop-inverse-init : goal.term-loop-inverse-init
term-loop-inverse-init t c =
    record {
      keeps = c.in_ok-first.ensures.keeps;
      read = subst (λ ps. Reads parts.TermSoFar c.args.levels (tree_of c.in_ok-first.first, map part_tree ps) c.args.p.now.text.now c.args.p.now.at c.factor.new.p.at) (sym c.new-parts.ensures.items)
          (parts.term_first c.in_ok-first.ensures.told.0);
      ends = c.in_ok-first.ensures.told.1;
    }

pub term-returns-in_err-value-clause-keeps : goal.term-returns-in_err-value-clause-keeps
term-returns-in_err-value-clause-keeps t c = kept_on _ _ _ (kept_on _ _ _ c.loop-inverse.invariant.keeps c.advance.ensures.keeps) c.in_err-value.ensures.keeps

pub term-returns-in_err-value-clause-told : goal.term-returns-in_err-value-clause-told
term-returns-in_err-value-clause-told t c =
    let p = err_from_is_err_and c.from_residual-in_err-value.result c.from_residual-in_err-value.ensures.1 in rw (p.1, p.2)
    (fails tree_of tree_of Factor Term 6 5 c.args.levels c.args.levels c.args.p.now c.advance.new.self c.factor-in-Some.new.p (λ always r. parts.term_refuses_more (parts.term_sign (sym c.in-Some.ensures) c.loop-inverse.invariant.read (moved_reads c.args.p.now c.loop-inverse.p c.loop-inverse.invariant.keeps (one_read c.loop-inverse.p c.advance.new.self c.args.levels refl c.advance.ensures.token)))
    (moved_refuses c.args.p.now c.advance.new.self (kept_on c.args.p.now c.loop-inverse.p c.advance.new.self c.loop-inverse.invariant.keeps c.advance.ensures.keeps) r)) _ c.in_err-value.ensures.told)

pub term-loop-inverse-smaller : goal.term-loop-inverse-smaller
term-loop-inverse-smaller t c =
    nearer c.loop-inverse.p c.advance.new.self c.factor-in-Some.new.p (omega (arith, parts.multiplies_binds_in c.loop-inverse.p.kind _ (sym c.in-Some.ensures))) c.loop-inverse.invariant.keeps.ready c.advance.ensures.behind c.advance.ensures.keeps c.in_ok-value.ensures.keeps

pub term-loop-inverse-preserved : goal.term-loop-inverse-preserved
term-loop-inverse-preserved t c =
    record {
      keeps = kept_on c.args.p.now c.advance.new.self c.factor-in-Some.new.p (kept_on c.args.p.now c.loop-inverse.p c.advance.new.self c.loop-inverse.invariant.keeps c.advance.ensures.keeps) c.in_ok-value.ensures.keeps;
      read = subst (λ ps. Reads parts.TermSoFar c.args.levels (tree_of c.loop-inverse.first-1, ps) c.args.p.now.text.now c.args.p.now.at c.factor-in-Some.new.p.at)
          (sym (more_signed c.loop-inverse.parts.items c.push.new.self.items c.in-Some.inverse c.in_ok-value.value c.in_ok-push.ensures.items))
          (parts.term_more (parts.term_sign (sym c.in-Some.ensures) c.loop-inverse.invariant.read (moved_reads c.args.p.now c.loop-inverse.p c.loop-inverse.invariant.keeps (one_read c.loop-inverse.p c.advance.new.self c.args.levels refl c.advance.ensures.token))) (moved_reads c.args.p.now c.advance.new.self (kept_on c.args.p.now c.loop-inverse.p c.advance.new.self c.loop-inverse.invariant.keeps c.advance.ensures.keeps) c.in_ok-value.ensures.told.0));
      ends = c.in_ok-value.ensures.told.1;
    }

pub term-returns-clause-keeps : goal.term-returns-clause-keeps
term-returns-clause-keeps t c = c.loop-inverse.invariant.keeps

pub term-returns-clause-told : goal.term-returns-clause-told
term-returns-clause-told t c = (
  subst (λ u. Reads Term c.args.levels u c.args.p.now.text.now c.args.p.now.at c.loop-inverse.p.at) (sym c.in_ok-product.ensures)
      (parts.term_done c.loop-inverse.invariant.read),
  not_times c.loop-inverse.p.kind (sym c.multiplies.ensures ∙ none_of c.multiplies.result c.in_default.not-Some),
)

pub second_sum-returns-in_err-second-clause-keeps : goal.second_sum-returns-in_err-second-clause-keeps
second_sum-returns-in_err-second-clause-keeps t c = kept_on _ _ _ c.advance.ensures.keeps c.in_err-second.ensures.keeps

pub second_sum-returns-in_err-second-clause-told : goal.second_sum-returns-in_err-second-clause-told
second_sum-returns-in_err-second-clause-told t c start first sign is kept_first read =
    let p = err_from_is_err_and c.from_residual.result c.from_residual.ensures.1 in rw (p.1, p.2)
    (second_fails c.args.levels first sign start c.args.p.now c.advance.new.self c.sum.new.p is kept_first read c.advance.ensures.keeps c.advance.ensures.token _ c.in_err-second.ensures.told)

pub second_sum-returns-in_err-ends_test-clause-keeps : goal.second_sum-returns-in_err-ends_test-clause-keeps
second_sum-returns-in_err-ends_test-clause-keeps t c = kept_on _ _ _ c.advance.ensures.keeps c.in_ok-second.ensures.keeps

pub second_sum-returns-in_err-ends_test-clause-told : goal.second_sum-returns-in_err-ends_test-clause-told
second_sum-returns-in_err-ends_test-clause-told t c start first sign is kept_first read =
    let p = err_from_is_err_and c.from_residual-in_err-ends_test.result c.from_residual-in_err-ends_test.ensures.1 in rw (p.1, p.2)
    (second_on c.args.levels first sign start c.args.p.now c.advance.new.self c.sum.new.p is kept_first read c.advance.ensures.keeps c.advance.ensures.token (tree_of c.in_ok-second.second) c.in_ok-second.ensures.told.0 c.in_ok-second.ensures.told.1 _ c.in_err-ends_test.ensures)

pub second_sum-returns-clause-keeps : goal.second_sum-returns-clause-keeps
second_sum-returns-clause-keeps t c = kept_on _ _ _ c.advance.ensures.keeps c.in_ok-second.ensures.keeps

pub second_sum-returns-clause-told : goal.second_sum-returns-clause-told
second_sum-returns-clause-told t c start first sign is kept_first read = (
  second_read c.args.levels first sign start c.args.p.now c.advance.new.self c.sum.new.p is kept_first read c.advance.ensures.keeps c.advance.ensures.token (tree_of c.in_ok-second.second) c.in_ok-second.ensures.told.0,
  c.in_ok-ends_test.ensures,
)

pub test-returns-in_err-first-clause-keeps : goal.test-returns-in_err-first-clause-keeps
test-returns-in_err-first-clause-keeps t c = c.in_err-first.ensures.keeps

pub test-returns-in_err-first-clause-told : goal.test-returns-in_err-first-clause-told
test-returns-in_err-first-clause-told t c =
    let p = err_from_is_err_and c.from_residual.result c.from_residual.ensures.1 in rw (p.1, p.2)
    (fails tree_of tree_of Sums Test 4 3 c.args.levels c.args.levels c.args.p.now c.args.p.now c.sum.new.p (λ always r. parts.test_refuses r) _ c.in_err-first.ensures.told)

pub test-returns-in_err-second-clause-keeps : goal.test-returns-in_err-second-clause-keeps
test-returns-in_err-second-clause-keeps t c = kept_on _ _ _ c.in_ok-first.ensures.keeps c.in_err-second.ensures.keeps

pub test-returns-in_err-second-clause-told : goal.test-returns-in_err-second-clause-told
test-returns-in_err-second-clause-told t c =
    let p = err_from_is_err_and c.from_residual-in_err-second.result c.from_residual-in_err-second.ensures.1 in rw (p.1, p.2)
    (c.in_err-second.ensures.told c.args.p.now (tree_of c.in_ok-first.first) c.in-Some.sign (sym c.in-Some.ensures) c.in_ok-first.ensures.keeps c.in_ok-first.ensures.told.0)

pub test-returns-in-Some-clause-keeps : goal.test-returns-in-Some-clause-keeps
test-returns-in-Some-clause-keeps t c = kept_on _ _ _ c.in_ok-first.ensures.keeps c.in_ok-second.ensures.keeps

pub test-returns-in-Some-clause-told : goal.test-returns-in-Some-clause-told
test-returns-in-Some-clause-told t c =
    let h = c.in_ok-second.ensures.told c.args.p.now (tree_of c.in_ok-first.first) c.in-Some.sign (sym c.in-Some.ensures) c.in_ok-first.ensures.keeps c.in_ok-first.ensures.told.0 in
    (subst (λ u. Reads Test c.args.levels u c.args.p.now.text.now c.args.p.now.at c.second_sum.new.p.at) (sym c.in_ok-compared.ensures) h.0, h.1)

pub test-returns-then-not-is-clause-keeps : goal.test-returns-then-not-is-clause-keeps
test-returns-then-not-is-clause-keeps t c = c.in_ok-first.ensures.keeps

pub test-returns-then-not-is-clause-told : goal.test-returns-then-not-is-clause-told
test-returns-then-not-is-clause-told t c =
    (parts.alone_read c.in_ok-first.ensures.told.0, not_tested c.sum.new.p.kind (sym c.sign.ensures ∙ none_of c.sign.result c.in_default.not-Some) c.if-not-is.ensures c.in_ok-first.ensures.told.1)

pub test-returns-in_err-not-clause-keeps : goal.test-returns-in_err-not-clause-keeps
test-returns-in_err-not-clause-keeps t c = kept_on _ _ _ c.in_ok-first.ensures.keeps c.in_err-not.ensures.keeps

pub test-returns-in_err-not-clause-told : goal.test-returns-in_err-not-clause-told
test-returns-in_err-not-clause-told t c =
    let p = err_from_is_err_and c.from_residual-in_err-not.result c.from_residual-in_err-not.ensures.1 in rw (p.1, p.2)
    (c.in_err-not.ensures.told c.args.p.now c.args.levels (tree_of c.in_ok-first.first) c.in_ok-first.ensures.keeps c.in_ok-first.ensures.told.0)

pub test-returns-clause-keeps : goal.test-returns-clause-keeps
test-returns-clause-keeps t c = kept_on _ _ _ c.in_ok-first.ensures.keeps c.in_ok-not.ensures.keeps

pub test-returns-clause-told : goal.test-returns-clause-told
test-returns-clause-told t c =
    let h = c.in_ok-not.ensures.told c.args.p.now c.args.levels (tree_of c.in_ok-first.first) c.in_ok-first.ensures.keeps c.in_ok-first.ensures.told.0 in
    (subst (λ u. Reads Test c.args.levels u c.args.p.now.text.now c.args.p.now.at c.asks.new.p.at) (sym c.in_ok-asked.ensures) h.0, h.1)

pub conj-returns-in_err-push-clause-keeps : goal.conj-returns-in_err-push-clause-keeps
conj-returns-in_err-push-clause-keeps t c = c.in_ok-first.ensures.keeps

pub conj-returns-in_err-push-clause-told : goal.conj-returns-in_err-push-clause-told
conj-returns-in_err-push-clause-told t c =
    memory_told tree_of Conj 2 c.args.levels c.args.p.now c.neg.new.p c.from_residual-in_err-push.result c.from_residual-in_err-push.ensures.1

pub conj-returns-in_err-push-2-clause-keeps : goal.conj-returns-in_err-push-2-clause-keeps
conj-returns-in_err-push-2-clause-keeps t c = kept_on _ _ _ (kept_on _ _ _ c.loop-p.invariant.keeps c.advance.ensures.keeps) c.in_ok-part.ensures.keeps

pub conj-returns-in_err-push-2-clause-told : goal.conj-returns-in_err-push-2-clause-told
conj-returns-in_err-push-2-clause-told t c =
    memory_told tree_of Conj 2 c.args.levels c.args.p.now c.neg-in-loop-p.new.p c.from_residual-in_err-push-2.result c.from_residual-in_err-push-2.ensures.1

pub expr-returns-in_err-push-clause-keeps : goal.expr-returns-in_err-push-clause-keeps
expr-returns-in_err-push-clause-keeps t c = c.in_ok-first.ensures.keeps

pub expr-returns-in_err-push-clause-told : goal.expr-returns-in_err-push-clause-told
expr-returns-in_err-push-clause-told t c =
    memory_told tree_of Expr 1 c.args.levels c.args.p.now c.conj.new.p c.from_residual-in_err-push.result c.from_residual-in_err-push.ensures.1

pub expr-returns-in_err-push-2-clause-keeps : goal.expr-returns-in_err-push-2-clause-keeps
expr-returns-in_err-push-2-clause-keeps t c = kept_on _ _ _ (kept_on _ _ _ c.loop-p.invariant.keeps c.advance.ensures.keeps) c.in_ok-part.ensures.keeps

pub expr-returns-in_err-push-2-clause-told : goal.expr-returns-in_err-push-2-clause-told
expr-returns-in_err-push-2-clause-told t c =
    memory_told tree_of Expr 1 c.args.levels c.args.p.now c.conj-in-loop-p.new.p c.from_residual-in_err-push-2.result c.from_residual-in_err-push-2.ensures.1

pub sum-returns-in_err-push-clause-keeps : goal.sum-returns-in_err-push-clause-keeps
sum-returns-in_err-push-clause-keeps t c = kept_on _ _ _ (kept_on _ _ _ c.loop-inverse.invariant.keeps c.advance.ensures.keeps) c.in_ok-value.ensures.keeps

pub sum-returns-in_err-push-clause-told : goal.sum-returns-in_err-push-clause-told
sum-returns-in_err-push-clause-told t c =
    memory_told tree_of Sums 4 c.args.levels c.args.p.now c.term-in-Some.new.p c.from_residual-in_err-push.result c.from_residual-in_err-push.ensures.1

pub sum-returns-in_err-summed-clause-keeps : goal.sum-returns-in_err-summed-clause-keeps
sum-returns-in_err-summed-clause-keeps t c = c.loop-inverse.invariant.keeps

pub sum-returns-in_err-summed-clause-told : goal.sum-returns-in_err-summed-clause-told
sum-returns-in_err-summed-clause-told t c =
    memory_told tree_of Sums 4 c.args.levels c.args.p.now c.loop-inverse.p c.from_residual-in_err-summed.result c.from_residual-in_err-summed.ensures.1

pub term-returns-in_err-push-clause-keeps : goal.term-returns-in_err-push-clause-keeps
term-returns-in_err-push-clause-keeps t c = kept_on _ _ _ (kept_on _ _ _ c.loop-inverse.invariant.keeps c.advance.ensures.keeps) c.in_ok-value.ensures.keeps

pub term-returns-in_err-push-clause-told : goal.term-returns-in_err-push-clause-told
term-returns-in_err-push-clause-told t c =
    memory_told tree_of Term 5 c.args.levels c.args.p.now c.factor-in-Some.new.p c.from_residual-in_err-push.result c.from_residual-in_err-push.ensures.1

pub term-returns-in_err-product-clause-keeps : goal.term-returns-in_err-product-clause-keeps
term-returns-in_err-product-clause-keeps t c = c.loop-inverse.invariant.keeps

pub term-returns-in_err-product-clause-told : goal.term-returns-in_err-product-clause-told
term-returns-in_err-product-clause-told t c =
    memory_told tree_of Term 5 c.args.levels c.args.p.now c.loop-inverse.p c.from_residual-in_err-product.result c.from_residual-in_err-product.ensures.1

pub neg-returns-in_err-new-clause-keeps : goal.neg-returns-in_err-new-clause-keeps
neg-returns-in_err-new-clause-keeps t c = kept_on _ _ _ c.advance.ensures.keeps c.in_ok-part.ensures.keeps

pub neg-returns-in_err-new-clause-told : goal.neg-returns-in_err-new-clause-told
neg-returns-in_err-new-clause-told t c =
    memory_told tree_of Neg 3 c.args.levels c.args.p.now c.neg.new.p c.from_residual-in_err-new.result c.from_residual-in_err-new.ensures.1

pub negated-returns-in_err-new-clause-keeps : goal.negated-returns-in_err-new-clause-keeps
negated-returns-in_err-new-clause-keeps t c = kept_on _ _ _ c.advance.ensures.keeps c.in_ok-value.ensures.keeps

pub negated-returns-in_err-new-clause-told : goal.negated-returns-in_err-new-clause-told
negated-returns-in_err-new-clause-told t c =
    memory_told tree_of Factor 6 c.args.levels c.args.p.now c.factor.new.p c.from_residual-in_err-new.result c.from_residual-in_err-new.ensures.1

pub neg-returns-then-levels-eq0-clause-keeps : goal.neg-returns-then-levels-eq0-clause-keeps
neg-returns-then-levels-eq0-clause-keeps t c = kept c.args.p.now c.requires.ready

pub negated-returns-then-levels-eq0-clause-keeps : goal.negated-returns-then-levels-eq0-clause-keeps
negated-returns-then-levels-eq0-clause-keeps t c = kept c.args.p.now c.requires.ready

pub enclosed-returns-then-levels-eq0-clause-keeps : goal.enclosed-returns-then-levels-eq0-clause-keeps
enclosed-returns-then-levels-eq0-clause-keeps t c = kept c.args.p.now c.requires.ready

pub test-returns-in_err-asked-clause-keeps : goal.test-returns-in_err-asked-clause-keeps
test-returns-in_err-asked-clause-keeps t c = kept_on _ _ _ c.in_ok-first.ensures.keeps c.in_ok-not.ensures.keeps

pub test-returns-in_err-asked-clause-told : goal.test-returns-in_err-asked-clause-told
test-returns-in_err-asked-clause-told t c =
    memory_told tree_of Test 3 c.args.levels c.args.p.now c.asks.new.p c.from_residual-in_err-asked.result c.from_residual-in_err-asked.ensures.1

pub test-returns-in_err-compared-clause-keeps : goal.test-returns-in_err-compared-clause-keeps
test-returns-in_err-compared-clause-keeps t c = kept_on _ _ _ c.in_ok-first.ensures.keeps c.in_ok-second.ensures.keeps

pub test-returns-in_err-compared-clause-told : goal.test-returns-in_err-compared-clause-told
test-returns-in_err-compared-clause-told t c =
    memory_told tree_of Test 3 c.args.levels c.args.p.now c.second_sum.new.p c.from_residual-in_err-compared.result c.from_residual-in_err-compared.ensures.1

pub factor-returns-in-Minus-clause-keeps : goal.factor-returns-in-Minus-clause-keeps
factor-returns-in-Minus-clause-keeps t c = c.negated.ensures.keeps

pub factor-returns-in-Minus-clause-told : goal.factor-returns-in-Minus-clause-told
factor-returns-in-Minus-clause-told t c = c.negated.ensures.told

pub factor-returns-in-Open-clause-keeps : goal.factor-returns-in-Open-clause-keeps
factor-returns-in-Open-clause-keeps t c = c.enclosed.ensures.keeps

pub factor-returns-in-Open-clause-told : goal.factor-returns-in-Open-clause-told
factor-returns-in-Open-clause-told t c = c.enclosed.ensures.told
