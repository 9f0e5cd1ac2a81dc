-- A text is one statement.
use Rattle.std.proofs.Common.{◌≡◌, ◌≢◌, ℕ, ◌<◌, ◌≤◌, Bool, true, false, List, [], ◌∷◌, ◌++◌, Option, Some, None, refl, sym, ◌∙◌, ap, subst, arith, append_assoc, append-nil}
use Rattle.mg_expr.specs.Trees.{Tree}
use Rattle.mg_sql.specs.declared.parts.TheConstants.{LEVELS}
use Rattle.mg_statements.specs.declared.statement.Sorted.{Sorted}
use Rattle.mg_sql.specs.declared.token.Kind.{Kind}
use Rattle.mg_sql.specs.declared.token.Kind.TheVariants as kinds
use Rattle.mg_sql.specs.Tokens.{Token, token, Takes}
use Rattle.mg_sql.specs.Spelling.{capitals, number}
use Rattle.mg_sql.specs.Ends.{kind_in}
use Rattle.mg_sql.specs.Grammar.{Limits}
use Rattle.mg_statements.specs.Plain as plain
use Rattle.mg_statements.specs.Plain.{Plain}
use Rattle.mg_sql.specs.Statements as g
use Rattle.mg_sql.specs.Statements.{Rest, Item, Of, Spells, item, behind, statement}
use Rattle.mg_sql.specs.Reading.{the_limits}
use Rattle.mg_sql.specs.Going.{Never, begins_in, behind_item, behind_list}
use Rattle.mg_sql.specs.Answers.{Parses}
use Rattle.mg_sql.proofs.Unique.{same_kind, same_bytes, same_tail, expr_one}
use Rattle.mg_sql.proofs.Moves.{Turns, words, name_parts, size_parts, value_parts, list_parts, never_word, never_either, never_name, never_finish, never_by, begins, ends_by, weak, behind_more, modes_at_read, no_star, no_totals, of_totals}
use Rattle.mg_sql.proofs.Once.{is_last, has_last, Once, once, statement_words}
use Rattle.mg_sql.proofs.Agreeing.{Read, Agree, shorter, longer, agree}
use Rattle.mg_sql.proofs.NoFault.{all_read, twice}

-- no tokens are both
abbrev pub Apart : Rest → Rest → Type 0
Apart r q = (m o : Limits) (n k : ℕ) (s t : Plain) (ts us vs ws : List Token) → Spells m n r s ts us → Spells o k q t vs ws → ts ≡ vs → ⊥

-- of two rests no tokens are both, and what follows an expression or a list does not go on with it
abbrev pub Decided : Rest → Type 0
Decided (g.finish s) = Unit {0}
Decided (g.word k r) = Decided r
Decided (g.either r q) = Decided r × Decided q × Apart r q
Decided (g.name then_) = (w : List ℕ) → Decided (then_ w)
Decided (g.size then_) = (w : ℕ) → Decided (then_ w)
Decided (g.expression within then_) = (t : Tree) → Decided (then_ t) × (begins_in behind_item (then_ t) ≡ true)
Decided (g.list i then_) = (xs : List (Of i)) → Decided (then_ xs) × (begins_in behind_list (then_ xs) ≡ true)

apart_word : {j : Kind} {r q : Rest} → Never q j → Apart (g.word j r) q
apart_word never m o n k s t ts us vs ws x y e = let w = words x in never o k t vs ws y (ap kind_in (sym e ∙ w.takes))

apart_either : {r q p : Rest} → Apart r p → Apart q p → Apart (g.either r q) p
apart_either a b m o n k s t ts us vs ws (g.left x) y e = a m o n k s t ts us vs ws x y e
apart_either a b m o n k s t ts us vs ws (g.right x) y e = b m o n k s t ts us vs ws x y e

apart_by : (r q : Rest) (test other : Kind → Bool) → begins_in test r ≡ true → begins_in other q ≡ true → ((k : Kind) → test k ≡ true → other k ≡ true → ⊥) → Apart r q
apart_by r q test other a b clash m o n k s t ts us vs ws x y e = clash (kind_in vs) (ap (λ zs. test (kind_in zs)) (sym e) ∙ begins test r a x) (begins other q b y)

both_decided : (i : Item) (then_ : List (Of i) → Rest) → Decided (g.list i then_) → (x : Of i) → Decided (behind i then_ (x ∷ []))
both_decided i then_ d x = ((λ more. d (x ∷ more)), (d (x ∷ [])).0, apart_word (never_by behind_list (then_ (x ∷ [])) (d (x ∷ [])).1 refl))

both_close : (i : Item) (then_ : List (Of i) → Rest) → Decided (g.list i then_) → (x : Of i) → begins_in behind_item (behind i then_ (x ∷ [])) ≡ true
both_close i then_ d x = rw (behind_more (then_ (x ∷ [])) (d (x ∷ [])).1) refl

item_decided : (i : Item) (then_ : Of i → Rest) → ((x : Of i) → Decided (then_ x)) → ((x : Of i) → begins_in behind_item (then_ x) ≡ true) → Decided (item i then_)
item_decided g.names then_ d c = d
item_decided (g.expressions within) then_ d c = λ t. (d t, c t)
item_decided g.assignments then_ d c = λ column. λ value. (d (column, value), c (column, value))
item_decided g.definitions then_ d c = λ column. (attributes column, (λ most. attributes column), apart_word (never_word (λ e. absurd cc))) where
  key_part : (column : List ℕ) {kind : _} (n : Bool) → Decided (g.keyed (λ key. then_ (g.def column kind n key)))
  key_part column n = (d _, d _, apart_word (never_by behind_item _ (c _) refl))

  attributes : (column : List ℕ) {kind : _} → Decided (g.unnullable (λ n. g.keyed (λ key. then_ (g.def column kind n key))))
  attributes column = (key_part column true, key_part column false, apart_word (never_either (never_word (λ e. absurd cc)) (never_by behind_item _ (c _) refl)))
item_decided g.totals then_ d c = (d _, (λ t. (d _, refl)), apart_word (never_word (λ e. absurd cc)))

-- the same tokens make the same statement
one : {m o : Limits} {n k : ℕ} {r : Rest} {s t : Plain} {ts us vs ws : List Token} → Spells m n r s ts us → Spells o k r t vs ws → Decided r → ts ≡ vs → s ≡ t
one (g.finished i) (g.finished j) d e = refl
one (g.finished i) (g.closed j l) d e = refl
one (g.closed i h) (g.finished j) d e = refl
one (g.closed i h) (g.closed j l) d e = refl
one (g.took i x) y d e = let w = words y in one x w.spells d (same_tail i w.takes e)
one (g.left x) (g.left y) d e = one x y d.0 e
one (g.left x) (g.right y) d e = absurd (d.2 _ _ _ _ _ _ _ _ _ _ x y e)
one (g.right x) (g.left y) d e = absurd (d.2 _ _ _ _ _ _ _ _ _ _ y x (sym e))
one (g.right x) (g.right y) d e = one x y d.1 e
one {o = o} {k = k} {t = t} {ws = ws} (g.named {then_ = then_} i h x) y d e = let w = name_parts y in
    one x (subst (λ b. Spells o k (then_ (capitals b)) t w.mid ws) (sym (same_bytes i w.takes e)) w.spells) (d _) (same_tail i w.takes e)
one {o = o} {k = k} {t = t} {ws = ws} (g.sized {then_ = then_} i low high x) y d e = let w = size_parts y in
    one x (subst (λ b. Spells o k (then_ (number b)) t w.mid ws) (sym (same_bytes i w.takes e)) w.spells) (d _) (same_tail i w.takes e)
one {o = o} {k = k} {t = t} {ws = ws} (g.expressed {then_ = then_} l u us same x y) z d e = let w = value_parts z in
    let p = expr_one x w.reads e (ends_by us refl (weak (kind_in us) (begins behind_item (then_ u) (d u).1 y))) (ends_by w.mid refl (weak (kind_in w.mid) (begins behind_item (then_ w.tree) (d w.tree).1 w.spells))) in
    one y (subst (λ q. Spells o k (then_ q) t w.mid ws) (sym p.one) w.spells) (d u).0 p.rest
one (g.listed {i = i} {then_ = then_} x) y d e = one x (list_parts y) (item_decided i (λ x. behind i then_ (x ∷ [])) (both_decided i then_ d) (both_close i then_ d)) e

-- the grammar of statements is decided token by token, but for READ behind SET TRANSACTION, where the next one decides

write_or_only : {q : Limits} {l : ℕ} {u : Plain} {r p : Rest} {ts us vs zs : List Token} {b : List ℕ} → Spells q l (g.either (g.word kinds.Write r) (g.word kinds.Only p)) u ts zs → Takes kinds.Committed b us vs → ts ≡ us → ⊥
write_or_only (g.left z) c f = let h = same_kind (words z).takes c f in absurd cc
write_or_only (g.right z) c f = let h = same_kind (words z).takes c f in absurd cc

apart_access : Apart (g.word kinds.Read (g.either (g.word kinds.Write (g.modes false)) (g.word kinds.Only (g.modes true)))) (g.modes false)
apart_access m o n k s t ts us vs ws x y e =
    let w = words x in
    let v = words (modes_at_read.outof o k t vs ws (ap kind_in (sym e ∙ w.takes)) y) in
    let c = words v.spells in
    write_or_only w.spells c.takes (same_tail w.takes v.takes e)

modes_decided : (read_only : Bool) → Decided (g.modes read_only)
modes_decided read_only = (((tt, tt, apart_word (never_word (λ e. absurd cc))), ((tt, tt, apart_word (never_word (λ e. absurd cc))), tt, apart_either (apart_word (never_finish (λ e. absurd cc) (λ e. absurd cc))) (apart_word (never_finish (λ e. absurd cc) (λ e. absurd cc)))), apart_word (never_either (never_either (never_word (λ e. absurd cc)) (never_word (λ e. absurd cc))) (never_finish (λ e. absurd cc) (λ e. absurd cc)))), (((tt, tt, apart_word (never_word (λ e. absurd cc))), ((tt, tt, apart_word (never_word (λ e. absurd cc))), tt, apart_either (apart_word (never_finish (λ e. absurd cc) (λ e. absurd cc))) (apart_word (never_finish (λ e. absurd cc) (λ e. absurd cc)))), apart_word (never_either (never_either (never_word (λ e. absurd cc)) (never_word (λ e. absurd cc))) (never_finish (λ e. absurd cc) (λ e. absurd cc)))), ((tt, tt, apart_word (never_word (λ e. absurd cc))), ((tt, tt, apart_word (never_word (λ e. absurd cc))), tt, apart_either (apart_word (never_finish (λ e. absurd cc) (λ e. absurd cc))) (apart_word (never_finish (λ e. absurd cc) (λ e. absurd cc)))), apart_word (never_either (never_either (never_word (λ e. absurd cc)) (never_word (λ e. absurd cc))) (never_finish (λ e. absurd cc) (λ e. absurd cc)))), apart_word (never_either (never_word (λ e. absurd cc)) (never_either (never_either (never_word (λ e. absurd cc)) (never_word (λ e. absurd cc))) (never_finish (λ e. absurd cc) (λ e. absurd cc))))), apart_word (never_either (never_word (λ e. absurd cc)) (never_either (never_word (λ e. absurd cc)) (never_either (never_either (never_word (λ e. absurd cc)) (never_word (λ e. absurd cc))) (never_finish (λ e. absurd cc) (λ e. absurd cc))))))

clashing : (k : Kind) → of_totals k ≡ true → no_totals k ≡ true → ⊥
clashing kinds.Count a b = absurd cc
clashing kinds.Sum a b = absurd cc
clashing _ a b = absurd cc

statement_decided : Decided g.statement
statement_decided = (
  ((modes_decided false, modes_decided true, apart_word (never_word (λ e. absurd cc))), modes_decided false, apart_access),
  (
    (tt, tt, apart_word (never_finish (λ e. absurd cc) (λ e. absurd cc))),
    (
      (((λ n. tt, λ n. tt, apart_word (never_name (λ e. absurd cc))), tt, apart_word (never_finish (λ e. absurd cc) (λ e. absurd cc))), ((λ n. tt, λ n. tt, apart_word (never_name (λ e. absurd cc))), tt, apart_word (never_finish (λ e. absurd cc) (λ e. absurd cc))), apart_word (never_either (never_word (λ e. absurd cc)) (never_finish (λ e. absurd cc) (λ e. absurd cc)))),
      (
        (λ n. tt),
        (
          (λ n. λ cs. (tt, refl)),
          (
            (λ t. ((λ cs. ((λ vs. (tt, refl)), refl)), (λ vs. (tt, refl)), apart_word (never_word (λ e. absurd cc)))),
            (
              (λ t. λ ss. (((λ x. (tt, refl)), tt, apart_word (never_finish (λ e. absurd cc) (λ e. absurd cc))), refl)),
              (
                (λ t. ((λ x. (tt, refl)), tt, apart_word (never_finish (λ e. absurd cc) (λ e. absurd cc)))),
                ((λ ags. ((λ t. ((λ x. (tt, refl)), tt, apart_word (never_finish (λ e. absurd cc) (λ e. absurd cc)))), refl)), ((λ t. ((λ x. (((λ c. (tt, (tt, tt, apart_word (never_finish (λ e. absurd cc) (λ e. absurd cc))), apart_word (never_either (never_word (λ e. absurd cc)) (never_finish (λ e. absurd cc) (λ e. absurd cc))))), tt, apart_word (never_finish (λ e. absurd cc) (λ e. absurd cc))), refl)), ((λ c. (tt, (tt, tt, apart_word (never_finish (λ e. absurd cc) (λ e. absurd cc))), apart_word (never_either (never_word (λ e. absurd cc)) (never_finish (λ e. absurd cc) (λ e. absurd cc))))), tt, apart_word (never_finish (λ e. absurd cc) (λ e. absurd cc))), apart_word (never_either (never_word (λ e. absurd cc)) (never_finish (λ e. absurd cc) (λ e. absurd cc))))), (λ vs. ((λ t. ((λ x. (((λ c. (tt, (tt, tt, apart_word (never_finish (λ e. absurd cc) (λ e. absurd cc))), apart_word (never_either (never_word (λ e. absurd cc)) (never_finish (λ e. absurd cc) (λ e. absurd cc))))), tt, apart_word (never_finish (λ e. absurd cc) (λ e. absurd cc))), refl)), ((λ c. (tt, (tt, tt, apart_word (never_finish (λ e. absurd cc) (λ e. absurd cc))), apart_word (never_either (never_word (λ e. absurd cc)) (never_finish (λ e. absurd cc) (λ e. absurd cc))))), tt, apart_word (never_finish (λ e. absurd cc) (λ e. absurd cc))), apart_word (never_either (never_word (λ e. absurd cc)) (never_finish (λ e. absurd cc) (λ e. absurd cc))))), refl)), apart_word (never_by no_star (g.list (g.expressions false) (λ values. g.selected (Some values))) refl refl)), apart_by g.totalled (g.results g.selected) of_totals no_totals refl refl clashing),
                apart_word (never_word (λ e. absurd cc)),
              ),
              apart_word (never_either (never_word (λ e. absurd cc)) (never_word (λ e. absurd cc))),
            ),
            apart_word (never_either (never_word (λ e. absurd cc)) (never_either (never_word (λ e. absurd cc)) (never_word (λ e. absurd cc)))),
          ),
          apart_word (never_either (never_word (λ e. absurd cc)) (never_either (never_word (λ e. absurd cc)) (never_either (never_word (λ e. absurd cc)) (never_word (λ e. absurd cc))))),
        ),
        apart_word (never_either (never_word (λ e. absurd cc)) (never_either (never_word (λ e. absurd cc)) (never_either (never_word (λ e. absurd cc)) (never_either (never_word (λ e. absurd cc)) (never_word (λ e. absurd cc)))))),
      ),
      apart_word (never_either (never_word (λ e. absurd cc)) (never_either (never_word (λ e. absurd cc)) (never_either (never_word (λ e. absurd cc)) (never_either (never_word (λ e. absurd cc)) (never_either (never_word (λ e. absurd cc)) (never_word (λ e. absurd cc))))))),
    ),
    apart_word (never_either (never_word (λ e. absurd cc)) (never_either (never_word (λ e. absurd cc)) (never_either (never_word (λ e. absurd cc)) (never_either (never_word (λ e. absurd cc)) (never_either (never_word (λ e. absurd cc)) (never_either (never_word (λ e. absurd cc)) (never_word (λ e. absurd cc)))))))),
  ),
  apart_word (never_either (never_word (λ e. absurd cc)) (never_either (never_word (λ e. absurd cc)) (never_either (never_word (λ e. absurd cc)) (never_either (never_word (λ e. absurd cc)) (never_either (never_word (λ e. absurd cc)) (never_either (never_word (λ e. absurd cc)) (never_either (never_word (λ e. absurd cc)) (never_word (λ e. absurd cc))))))))),
)

pub one_statement : (text : List ℕ) (s t : Plain) → Parses text s → Parses text t → s ≡ t
one_statement text s t x y = by (agree 0 x.front.from y.front.from x.front.blanks y.front.blanks x.front.lexes y.front.lexes (subst Read (sym o.is) (all_read o.front o.last o.none o.end))) where
  o : Once x.tokens []
  o = once x.is statement_words

  p : Once y.tokens []
  p = once y.is statement_words

  by : Agree x.tokens y.tokens → s ≡ t
  by (shorter [] e) = one x.is y.is statement_decided (sym (e ∙ append-nil x.tokens))
  by (shorter (m ∷ ms) e) = absurd (twice o.front p.front o.last p.last m ms (ap is_last o.end) p.none
      (sym (append_assoc o.front (o.last ∷ []) (m ∷ ms)) ∙ ap (λ z. z ++ m ∷ ms) (sym o.is) ∙ sym e ∙ p.is))
  by (longer m ms e) = absurd (twice p.front o.front p.last o.last m ms (ap is_last p.end) o.none
      (sym (append_assoc p.front (p.last ∷ []) (m ∷ ms)) ∙ ap (λ z. z ++ m ∷ ms) (sym p.is) ∙ sym e ∙ o.is))
