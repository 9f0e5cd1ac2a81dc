-- A statement's tokens end with the end of the text, and have it nowhere else.
use Rattle.std.proofs.Common.{◌≡◌, ◌≢◌, ℕ, Bool, true, false, List, [], ◌∷◌, ◌++◌, Option, Some, None, refl, sym, ◌∙◌, ap, subst, append_assoc}
use Rattle.std.specs.Prelude.{◌||◌}
use Rattle.mg_expr.specs.declared.expr.Sign.{Sign}
use Rattle.mg_expr.specs.Trees.{Tree}
use Rattle.mg_sql.specs.declared.token.Kind.{Kind}
use Rattle.mg_sql.specs.declared.token.Kind.TheVariants as kinds
use Rattle.mg_sql.specs.Tokens.{Token, token, Takes}
use Rattle.mg_sql.specs.Grammar.{Limits, sign_of, adds, multiplies}
use Rattle.mg_sql.specs.Grammar as e
use Rattle.mg_statements.specs.Plain as plain
use Rattle.mg_statements.specs.Plain.{Plain}
use Rattle.mg_sql.specs.Statements as g
use Rattle.mg_sql.specs.Statements.{Rest, Item, Of, Spells, item, behind}

abbrev pub is_last : Kind → Bool
is_last kinds.End = true
is_last kinds.Stray = true
is_last _ = false

-- the end of the text, or a byte that begins no token, is among the tokens
abbrev pub has_last : List Token → Bool
has_last [] = false
has_last (t ∷ ts) = is_last t.kind || has_last ts

pub no_last_on : (xs ys : List Token) → has_last xs ≡ false → has_last ys ≡ false → has_last (xs ++ ys) ≡ false
no_last_on [] ys a b = b
no_last_on (x ∷ xs) ys a b = by (is_last x.kind) refl (λ h. no_last_on xs ys h b) where
  by : (t : Bool) → is_last x.kind ≡ t → (has_last xs ≡ false → has_last (xs ++ ys) ≡ false) → has_last (x ∷ (xs ++ ys)) ≡ false
  by true t more = let h = rw t at a in absurd cc
  by false t more = rw t (more (rw t at a))

-- some tokens, and those behind them
record Part (ts us : List Token) : Type 0 where
  pub front : List Token
  pub is : ts ≡ front ++ us
  pub none : has_last front ≡ false

part_none : {ts : List Token} → Part ts ts
part_none = record { front = []; is = refl; none = refl }

part_take : {k : Kind} {b : List ℕ} {ts us : List Token} → Takes k b ts us → is_last k ≡ false → Part ts us
part_take {k = k} {b = b} t other = record { front = token k b ∷ []; is = t; none = rw other refl }

part_on : {ts us vs : List Token} → Part ts us → Part us vs → Part ts vs
part_on {vs = vs} a b = record {
  front = a.front ++ b.front;
  is = a.is ∙ ap (λ xs. a.front ++ xs) b.is ∙ sym (append_assoc a.front b.front vs);
  none = no_last_on a.front b.front a.none b.none;
}

sign_no : (k : Kind) (s : Sign) → sign_of k ≡ Some s → is_last k ≡ false
sign_no kinds.End s h = absurd cc
sign_no kinds.Stray s h = absurd cc
sign_no _ s h = refl

adds_no : (k : Kind) (s : Bool) → adds k ≡ Some s → is_last k ≡ false
adds_no kinds.End s h = absurd cc
adds_no kinds.Stray s h = absurd cc
adds_no _ s h = refl

multiplies_no : (k : Kind) (s : Bool) → multiplies k ≡ Some s → is_last k ≡ false
multiplies_no kinds.End s h = absurd cc
multiplies_no kinds.Stray s h = absurd cc
multiplies_no _ s h = refl

mutual
  factor_part : {m : Limits} {n : ℕ} {t : Tree} {ts us : List Token} → e.Factor m n t ts us → Part ts us
  factor_part (e.minus i f) = part_on (part_take i refl) (factor_part f)
  factor_part (e.parens i x c) = part_on (part_take i refl) (part_on (expr_part x) (part_take c refl))
  factor_part (e.integer i h) = part_take i refl
  factor_part (e.text i) = part_take i refl
  factor_part (e.null i) = part_take i refl
  factor_part (e.name i h) = part_take i refl

  times_part : {m : Limits} {n : ℕ} {ps : List (Bool × Tree)} {ts us : List Token} → e.Times m n ps ts us → Part ts us
  times_part e.no_time = part_none
  times_part (e.time i h f r) = part_on (part_take i (multiplies_no _ _ h)) (part_on (factor_part f) (times_part r))

  term_part : {m : Limits} {n : ℕ} {t : Tree} {ts us : List Token} → e.Term m n t ts us → Part ts us
  term_part (e.term f r) = part_on (factor_part f) (times_part r)

  adds_part : {m : Limits} {n : ℕ} {ps : List (Bool × Tree)} {ts us : List Token} → e.Adds m n ps ts us → Part ts us
  adds_part e.no_add = part_none
  adds_part (e.add i h f r) = part_on (part_take i (adds_no _ _ h)) (part_on (term_part f) (adds_part r))

  sums_part : {m : Limits} {n : ℕ} {t : Tree} {ts us : List Token} → e.Sums m n t ts us → Part ts us
  sums_part (e.sum f r) = part_on (term_part f) (adds_part r)

  tested_part : {m : Limits} {n : ℕ} {a t : Tree} {ts us : List Token} → e.Tested m n a t ts us → Part ts us
  tested_part e.alone = part_none
  tested_part (e.compare i h f) = part_on (part_take i (sign_no _ _ h)) (sums_part f)
  tested_part (e.is_null i j) = part_on (part_take i refl) (part_take j refl)
  tested_part (e.is_not_null i j k) = part_on (part_take i refl) (part_on (part_take j refl) (part_take k refl))

  test_part : {m : Limits} {n : ℕ} {t : Tree} {ts us : List Token} → e.Test m n t ts us → Part ts us
  test_part (e.test_ f r) = part_on (sums_part f) (tested_part r)

  neg_part : {m : Limits} {n : ℕ} {t : Tree} {ts us : List Token} → e.Neg m n t ts us → Part ts us
  neg_part (e.not i f) = part_on (part_take i refl) (neg_part f)
  neg_part (e.test f) = test_part f

  ands_part : {m : Limits} {n : ℕ} {ps : List Tree} {ts us : List Token} → e.Ands m n ps ts us → Part ts us
  ands_part e.no_and = part_none
  ands_part (e.and i f r) = part_on (part_take i refl) (part_on (neg_part f) (ands_part r))

  conj_part : {m : Limits} {n : ℕ} {t : Tree} {ts us : List Token} → e.Conj m n t ts us → Part ts us
  conj_part (e.conj f r) = part_on (neg_part f) (ands_part r)

  ors_part : {m : Limits} {n : ℕ} {ps : List Tree} {ts us : List Token} → e.Ors m n ps ts us → Part ts us
  ors_part e.no_or = part_none
  ors_part (e.or i f r) = part_on (part_take i refl) (part_on (conj_part f) (ors_part r))

  expr_part : {m : Limits} {n : ℕ} {t : Tree} {ts us : List Token} → e.Expr m n t ts us → Part ts us
  expr_part (e.expr f r) = part_on (conj_part f) (ors_part r)

-- no word of the rest is the end of the text
abbrev Words : Rest → Type 0
Words (g.finish s) = Unit {0}
Words (g.word k r) = (is_last k ≡ false) × Words r
Words (g.either r q) = Words r × Words q
Words (g.name then_) = (w : List ℕ) → Words (then_ w)
Words (g.size then_) = (w : ℕ) → Words (then_ w)
Words (g.expression within then_) = (t : Tree) → Words (then_ t)
Words (g.list i then_) = (xs : List (Of i)) → Words (then_ xs)

item_words : (i : Item) (then_ : Of i → Rest) → ((x : Of i) → Words (then_ x)) → Words (item i then_)
item_words g.names then_ h = h
item_words (g.expressions within) then_ h = h
item_words g.assignments then_ h = λ column. (refl, λ value. h (column, value))
item_words g.definitions then_ h = λ column. (
  (refl, ((refl, (refl, ((refl, (refl, h _)), h _))), ((refl, (refl, h _)), h _))),
  (refl, (refl, λ most. (refl, ((refl, (refl, ((refl, (refl, h _)), h _))), ((refl, (refl, h _)), h _))))),
)
item_words g.totals then_ h = ((refl, (refl, (refl, (refl, h _)))), (refl, (refl, λ t. (refl, h _))))

-- tokens up to the end of the text, and those behind it
pub record Once (ts us : List Token) : Type 0 where
  pub front : List Token
  pub last : Token
  pub is : ts ≡ front ++ last ∷ us
  pub end : last.kind ≡ kinds.End
  pub none : has_last front ≡ false

once_on : {ts us vs : List Token} → Part ts us → Once us vs → Once ts vs
once_on {vs = vs} a b = record {
  front = a.front ++ b.front;
  last = b.last;
  is = a.is ∙ ap (λ xs. a.front ++ xs) b.is ∙ sym (append_assoc a.front b.front (b.last ∷ vs));
  end = b.end;
  none = no_last_on a.front b.front a.none b.none;
}

once_take : {b : List ℕ} {ts us : List Token} → Takes kinds.End b ts us → Once ts us
once_take {b = b} t = record { front = []; last = token kinds.End b; is = t; end = refl; none = refl }

pub once : {m : Limits} {n : ℕ} {r : Rest} {s : Plain} {ts us : List Token} → Spells m n r s ts us → Words r → Once ts us
once (g.finished t) w = once_take t
once (g.closed t u) w = once_on (part_take t refl) (once_take u)
once (g.took t x) w = once_on (part_take t w.0) (once x w.1)
once (g.left x) w = once x w.0
once (g.right x) w = once x w.1
once (g.named t h x) w = once_on (part_take t refl) (once x (w _))
once (g.sized t low high x) w = once_on (part_take t refl) (once x (w _))
once (g.expressed l t us same x y) w = once_on (expr_part x) (once y (w t))
once (g.listed {i = i} {then_ = then_} x) w = once x (item_words i (λ x. behind i then_ (x ∷ [])) (λ x. ((refl, λ more. w (x ∷ more)), w (x ∷ []))))

modes_words : (read_only : Bool) → Words (g.modes read_only)
modes_words read_only = ((refl, ((refl, (refl, ((refl, tt), (refl, (refl, tt))))), (((refl, tt), (refl, (refl, tt))), tt))), ((refl, (refl, ((refl, (refl, ((refl, tt), (refl, (refl, tt))))), (((refl, tt), (refl, (refl, tt))), tt)))), ((refl, (refl, ((refl, tt), (refl, (refl, tt))))), (((refl, tt), (refl, (refl, tt))), tt))))

pub statement_words : Words g.statement
statement_words = (
  (refl, (refl, ((refl, ((refl, modes_words false), (refl, modes_words true))), modes_words false))),
  (
    (refl, ((refl, tt), tt)),
    (
      (refl, ((refl, ((refl, ((refl, λ n. tt), λ n. tt)), tt)), ((refl, ((refl, λ n. tt), λ n. tt)), tt))),
      (
        (refl, λ n. tt),
        (
          (refl, (refl, λ n. (refl, λ cs. (refl, tt)))),
          (
            (refl, (refl, λ t. ((refl, λ cs. (refl, (refl, (refl, λ vs. (refl, tt))))), (refl, (refl, λ vs. (refl, tt)))))),
            (
              (refl, λ t. (refl, λ ss. ((refl, λ x. tt), tt))),
              (
                (refl, (refl, λ t. ((refl, λ x. tt), tt))),
                (
                  refl,
                  (
                    (λ ags. (refl, λ t. ((refl, λ x. tt), tt))),
                    ((refl, (refl, λ t. ((refl, λ x. ((refl, (refl, λ column. ((refl, tt), ((refl, tt), tt)))), tt)), ((refl, (refl, λ column. ((refl, tt), ((refl, tt), tt)))), tt)))), (λ vs. (refl, λ t. ((refl, λ x. ((refl, (refl, λ column. ((refl, tt), ((refl, tt), tt)))), tt)), ((refl, (refl, λ column. ((refl, tt), ((refl, tt), tt)))), tt))))),
                  ),
                ),
              ),
            ),
          ),
        ),
      ),
    ),
  ),
)
