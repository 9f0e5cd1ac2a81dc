-- Tokens are read as an expression in one way: two readings of the same tokens, behind which no token
-- goes on with it, are one.
use Rattle.std.proofs.Common.{◌≡◌, ℕ, zero, suc, ◌<◌, ◌≤◌, Bool, true, false, List, [], ◌∷◌, ◌++◌, length, Option, Some, None, append-nil, refl, sym, ◌∙◌, ap, subst, arith, ℤ, pos}
use Rattle.std.proofs.Common.{eq-eqb}
use Rattle.std.proofs.lemmas.Bool.{eqb-true}
use Rattle.std.specs.Prelude.{◌==◌}
use Rattle.mg_expr.specs.declared.expr.Sign.{Sign}
use Rattle.mg_expr.specs.declared.expr.Sign.TheVariants as signs
use Rattle.mg_expr.specs.Trees.{Tree, Or, And, Not, Compare, IsNull, IsNotNull, Sum, Product, Minus, Integer, Text, Null, Name}
use Rattle.mg_sql.specs.declared.token.Kind.{Kind}
use Rattle.mg_sql.specs.declared.token.Kind.TheVariants as kinds
use Rattle.mg_sql.specs.Tokens.{Token, token, Takes}
use Rattle.mg_sql.specs.Ends.{binds, front_binds, Ends, opens, front_opens}
use Rattle.mg_sql.specs.Spelling.{capitals, number, quoted, doubled}
use Rattle.mg_sql.specs.Grammar.{Limits, one_or, one_or_parts, sign_of, adds, multiplies}
use Rattle.mg_sql.specs.Grammar.{Expr, expr, Ors, no_or, or, Conj, conj, Ands, no_and, and, Neg, not, test, Test, test_, Tested, alone, compare, is_null, is_not_null}
use Rattle.mg_sql.specs.Grammar.{Sums, sum, Adds, no_add, add, Term, term, Times, no_time, time, Factor, minus, parens, integer, text, null, name}

-- the same token in front has the same kind, the same bytes and the same tokens behind it
pub record Same {A : Type 0} (x y : A) (us vs : List Token) : Type 0 where
  pub one : x ≡ y
  pub rest : us ≡ vs

both : {A B C : Type 0} (f : A → B → C) {x y : A} {u v : B} → x ≡ y → u ≡ v → f x u ≡ f y v
both f e g = λ i. f (e i) (g i)

abbrev head_in : List ℕ → ℕ
head_in [] = 0
head_in (b ∷ bs) = b

abbrev tail_in : List ℕ → List ℕ
tail_in [] = []
tail_in (b ∷ bs) = bs

abbrev kind_at : List Token → Kind
kind_at [] = kinds.End
kind_at (t ∷ ts) = t.kind

abbrev bytes_at : List Token → List ℕ
bytes_at [] = []
bytes_at (t ∷ ts) = t.bytes

abbrev tail_of : List Token → List Token
tail_of [] = []
tail_of (t ∷ ts) = ts

pub same_kind : {j k : Kind} {b c : List ℕ} {ts us vs ws : List Token} → Takes j b ts us → Takes k c vs ws → ts ≡ vs → j ≡ k
same_kind i j e = ap kind_at (sym i ∙ e ∙ j)

pub same_bytes : {j k : Kind} {b c : List ℕ} {ts us vs ws : List Token} → Takes j b ts us → Takes k c vs ws → ts ≡ vs → b ≡ c
same_bytes i j e = ap bytes_at (sym i ∙ e ∙ j)

pub same_tail : {j k : Kind} {b c : List ℕ} {ts us vs ws : List Token} → Takes j b ts us → Takes k c vs ws → ts ≡ vs → us ≡ ws
same_tail i j e = ap tail_of (sym i ∙ e ∙ j)

pub clash : {k : Kind} {s : Sign} → kinds.Is ≡ k → sign_of k ≡ Some s → ⊥
clash e h = let i = ap sign_of e ∙ h in cc

-- what a factor is that begins with a token of this kind
abbrev pub FactorAt : Kind → List ℕ → Limits → ℕ → Tree → List Token → List Token → Type 0
FactorAt kinds.Minus b most n t us vs = (m : ℕ) × (u : Tree) × (n ≡ suc m) × (t ≡ Minus u) × Factor most m u us vs
FactorAt kinds.Open b most n t us vs = (m : ℕ) × (c : List ℕ) × (ws : List Token) × (n ≡ suc m) × Expr most m t us ws × Takes kinds.Close c ws vs
FactorAt kinds.Integer b most n t us vs = (number b ≤ most.number) × (t ≡ Integer (pos (number b))) × (us ≡ vs)
FactorAt kinds.Text b most n t us vs = (value : List ℕ) × (t ≡ Text value) × (b ≡ quoted value) × (us ≡ vs)
FactorAt kinds.Null b most n t us vs = (t ≡ Null) × (us ≡ vs)
FactorAt kinds.Name b most n t us vs = (length b ≤ most.name) × (t ≡ Name (capitals b)) × (us ≡ vs)
FactorAt _ b most n t us vs = ⊥

-- what is known of a first token is known of the first token of the same tokens
at_front : (P : Kind → List ℕ → List Token → Type 0) {j k : Kind} {b c : List ℕ} {ts us vs ws : List Token}
    → Takes j b ts us → Takes k c vs ws → ts ≡ vs → P j b us → P k c ws
at_front P i j e p = subst (λ x. P (kind_at x) (bytes_at x) (tail_of x)) (sym i ∙ e ∙ j) p

pub factor_at : {most : Limits} {n : ℕ} {t : Tree} {ts us vs ws : List Token} {k : Kind} {c : List ℕ}
    → Factor most n t ts us → Takes k c vs ws → ts ≡ vs → FactorAt k c most n t ws us
factor_at {most = most} {us = us} (minus {n = m} {t = u} i f) j e = at_front (λ k b ws. FactorAt k b most (suc m) (Minus u) ws us) i j e (m, u, refl, refl, f)
factor_at {most = most} {us = us} (parens {n = m} {t = u} {c = d} {vs = vs} i x c) j e = at_front (λ k b ws. FactorAt k b most (suc m) u ws us) i j e (m, d, vs, refl, x, c)
factor_at {most = most} {us = us} (integer {n = m} {digits = b} i h) j e = at_front (λ k c ws. FactorAt k c most m (Integer (pos (number b))) ws us) i j e (h, refl, refl)
factor_at {most = most} {us = us} (text {n = m} {value = b} i) j e = at_front (λ k c ws. FactorAt k c most m (Text b) ws us) i j e (b, refl, refl, refl)
factor_at {most = most} {us = us} (null {n = m} i) j e = at_front (λ k c ws. FactorAt k c most m Null ws us) i j e (refl, refl)
factor_at {most = most} {us = us} (name {n = m} {word = b} i h) j e = at_front (λ k c ws. FactorAt k c most m (Name (capitals b)) ws us) i j e (h, refl, refl)

pub factor_opens : {most : Limits} {n : ℕ} {t : Tree} {ts us : List Token} → Factor most n t ts us → front_opens ts ≡ true
factor_opens (minus i f) = ap front_opens i
factor_opens (parens i x c) = ap front_opens i
factor_opens (integer i h) = ap front_opens i
factor_opens (text i) = ap front_opens i
factor_opens (null i) = ap front_opens i
factor_opens (name i h) = ap front_opens i

pub test_opens : {most : Limits} {n : ℕ} {t : Tree} {ts us : List Token} → Test most n t ts us → front_opens ts ≡ true
test_opens (test_ (sum (term f ms) ps) more) = factor_opens f

-- further parts were read up to a place, and others go on from there to another
pub record Further {P : Type 0} (R : List P → List Token → List Token → Type 0) (parts others : List P) (us vs : List Token) : Type 0 where
  pub rest : List P
  pub from : List Token
  pub same : us ≡ from
  pub are : others ≡ parts ++ rest
  pub reads : R rest from vs

-- what stands in front binds so tightly
pub binds_so : {k : Kind} {b : List ℕ} {ts us : List Token} → Takes k b ts us → front_binds ts ≡ binds k
binds_so i = ap front_binds i

pub weaker : (j k : ℕ) (ts : List Token) → Ends j ts → j ≤ k → Ends k ts
weaker j k ts e h = omega arith

-- two readings of the same tokens: one more part
pub more_of : {P : Type 0} (R : List P → List Token → List Token → Type 0) {p q : P} {ps qs : List P} {us vs : List Token}
    → p ≡ q → Further R ps qs us vs → Further R (p ∷ ps) (q ∷ qs) us vs
more_of R {p = p} {ps = ps} {qs = qs} one f = record { rest = f.rest; from = f.from; same = f.same; are = ap (λ x. x ∷ qs) (sym one) ∙ ap (λ xs. p ∷ xs) f.are; reads = f.reads }

pub further_done : {P : Type 0} (R : List P → List Token → List Token → Type 0) (level : ℕ) {ps qs : List P} {us vs : List Token}
    → ((xs : List P) (ts us : List Token) → R xs ts us → Ends level ts → Same xs [] ts us)
    → Further R ps qs us vs → Ends level us → Same ps qs us vs
further_done R level {ps = ps} done f e =
    let d = done f.rest f.from _ f.reads (subst (λ ts. Ends level ts) f.same e) in
    record { one = sym (f.are ∙ ap (λ xs. ps ++ xs) d.one ∙ append-nil ps); rest = f.same ∙ d.rest }

pub sign_binds : (k : Kind) (s : Sign) → sign_of k ≡ Some s → binds k ≡ 3
sign_binds kinds.Equal s h = refl
sign_binds kinds.Unequal s h = refl
sign_binds kinds.Less s h = refl
sign_binds kinds.AtMost s h = refl
sign_binds kinds.Greater s h = refl
sign_binds kinds.AtLeast s h = refl
sign_binds _ s h = absurd cc

pub adds_binds : (k : Kind) (s : Bool) → adds k ≡ Some s → binds k ≡ 4
adds_binds kinds.Plus s h = refl
adds_binds kinds.Minus s h = refl
adds_binds _ s h = absurd cc

pub multiplies_binds : (k : Kind) (s : Bool) → multiplies k ≡ Some s → binds k ≡ 5
multiplies_binds kinds.Star s h = refl
multiplies_binds kinds.Slash s h = refl
multiplies_binds _ s h = absurd cc

-- one sign of the same kind
pub same_sign : {A : Type 0} (f : Kind → Option A) {j k : Kind} {a b : A} → j ≡ k → f j ≡ Some a → f k ≡ Some b → a ≡ b
same_sign f e i j = let h = sym i ∙ ap f e ∙ j in cc

pub times_done : (most : Limits) (n : ℕ) (ps : List (Bool × Tree)) (ts us : List Token) → Times most n ps ts us → Ends 5 ts → Same ps [] ts us
times_done most n ps ts us no_time e = record { one = refl; rest = refl }
times_done most n ps ts us (time {k = k} {inverse = s} i h f r) e = absurd (omega (arith, binds_so i, multiplies_binds k s h))

pub adds_done : (most : Limits) (n : ℕ) (ps : List (Bool × Tree)) (ts us : List Token) → Adds most n ps ts us → Ends 4 ts → Same ps [] ts us
adds_done most n ps ts us no_add e = record { one = refl; rest = refl }
adds_done most n ps ts us (add {k = k} {inverse = s} i h f r) e = absurd (omega (arith, binds_so i, adds_binds k s h))

pub ands_done : (most : Limits) (n : ℕ) (ps : List Tree) (ts us : List Token) → Ands most n ps ts us → Ends 2 ts → Same ps [] ts us
ands_done most n ps ts us no_and e = record { one = refl; rest = refl }
ands_done most n ps ts us (and i f r) e = absurd (omega (arith, binds_so i))

pub ors_done : (most : Limits) (n : ℕ) (ps : List Tree) (ts us : List Token) → Ors most n ps ts us → Ends 1 ts → Same ps [] ts us
ors_done most n ps ts us no_or e = record { one = refl; rest = refl }
ors_done most n ps ts us (or i f r) e = absurd (omega (arith, binds_so i))

-- what ends a longer part stands behind a shorter one, or a sign that binds less tightly does
pub times_ends : {most : Limits} {n : ℕ} {ps : List (Bool × Tree)} {ts us : List Token} → Times most n ps ts us → Ends 6 us → Ends 6 ts
times_ends no_time e = e
times_ends (time {k = k} {inverse = s} i h f r) e = omega (arith, binds_so i, multiplies_binds k s h)

pub adds_ends : {most : Limits} {n : ℕ} {ps : List (Bool × Tree)} {ts us : List Token} → Adds most n ps ts us → Ends 5 us → Ends 5 ts
adds_ends no_add e = e
adds_ends (add {k = k} {inverse = s} i h f r) e = omega (arith, binds_so i, adds_binds k s h)

pub tested_ends : {most : Limits} {n : ℕ} {a t : Tree} {ts us : List Token} → Tested most n a t ts us → Ends 4 us → Ends 4 ts
tested_ends alone e = e
tested_ends (compare {k = k} {sign = s} i h f) e = omega (arith, binds_so i, sign_binds k s h)
tested_ends (is_null i j) e = omega (arith, binds_so i)
tested_ends (is_not_null i j k) e = omega (arith, binds_so i)

pub ands_ends : {most : Limits} {n : ℕ} {ps : List Tree} {ts us : List Token} → Ands most n ps ts us → Ends 3 us → Ends 3 ts
ands_ends no_and e = e
ands_ends (and i f r) e = omega (arith, binds_so i)

pub ors_ends : {most : Limits} {n : ℕ} {ps : List Tree} {ts us : List Token} → Ors most n ps ts us → Ends 2 us → Ends 2 ts
ors_ends no_or e = e
ors_ends (or i f r) e = omega (arith, binds_so i)

doubled_one : (a b : List ℕ) → doubled a ≡ doubled b → a ≡ b
doubled_one [] [] e = refl
doubled_one [] (c ∷ cs) e = at (c == 39) refl where
  at : (t : Bool) → (c == 39) ≡ t → [] ≡ c ∷ cs
  at true h = let k = rw h at e in absurd cc
  at false h = let k = rw h at e in absurd cc
doubled_one (b ∷ bs) [] e = at (b == 39) refl where
  at : (t : Bool) → (b == 39) ≡ t → b ∷ bs ≡ []
  at true h = let k = rw h at e in absurd cc
  at false h = let k = rw h at e in absurd cc
doubled_one (b ∷ bs) (c ∷ cs) e = at (b == 39) (c == 39) refl refl (doubled_one bs cs) where
  at : (t u : Bool) → (b == 39) ≡ t → (c == 39) ≡ u → (doubled bs ≡ doubled cs → bs ≡ cs) → b ∷ bs ≡ c ∷ cs
  at true true h l more = let k = rw (h, l) at e in λ i. (eqb-true b 39 h ∙ sym (eqb-true c 39 l)) i ∷ more (ap (λ xs. tail_in (tail_in xs)) k) i
  at true false h l more = let k = rw (h, l) at e in let m : c ≡ 39 = sym (ap head_in k) in let n = eq-eqb c 39 m in absurd cc
  at false true h l more = let k = rw (h, l) at e in let m : b ≡ 39 = ap head_in k in let n = eq-eqb b 39 m in absurd cc
  at false false h l more = let k = rw (h, l) at e in λ i. head_in (k i) ∷ more (ap tail_in k) i

quoted_one : (a b : List ℕ) → quoted a ≡ quoted b → a ≡ b
quoted_one a b e = doubled_one a b (append_cancel (doubled a) (doubled b) (ap tail_in e)) where
  append_cancel : (xs ys : List ℕ) → xs ++ 39 ∷ [] ≡ ys ++ 39 ∷ [] → xs ≡ ys
  append_cancel [] [] e = refl
  append_cancel [] (y ∷ []) e = let k = ap tail_in e in absurd cc
  append_cancel [] (y ∷ z ∷ ys) e = let k = ap tail_in e in absurd cc
  append_cancel (x ∷ []) [] e = let k = ap tail_in e in absurd cc
  append_cancel (x ∷ z ∷ xs) [] e = let k = ap tail_in e in absurd cc
  append_cancel (x ∷ xs) (y ∷ ys) e = λ i. head_in (e i) ∷ append_cancel xs ys (ap tail_in e) i

mutual
  pub factor_one : {m o : Limits} {n k : ℕ} {t u : Tree} {ts us vs ws : List Token}
      → Factor m n t ts us → Factor o k u vs ws → ts ≡ vs → Same t u us ws
  factor_one (minus i f) g e = let at = factor_at g i (sym e) in
      let same = factor_one f at.4 refl in
      record { one = ap Minus same.one ∙ sym at.3; rest = same.rest }
  factor_one (parens i x c) g e = let at = factor_at g i (sym e) in
      let same = expr_one x at.4 refl (omega (arith, binds_so c)) (omega (arith, binds_so at.5)) in
      record { one = same.one; rest = same_tail c at.5 same.rest }
  factor_one (integer i h) g e = let at = factor_at g i (sym e) in record { one = sym at.1; rest = at.2 }
  factor_one (text {value = v} i) g e = let at = factor_at g i (sym e) in record { one = ap Text (quoted_one v at.0 at.2) ∙ sym at.1; rest = at.3 }
  factor_one (null i) g e = let at = factor_at g i (sym e) in record { one = sym at.0; rest = at.1 }
  factor_one (name i h) g e = let at = factor_at g i (sym e) in record { one = sym at.1; rest = at.2 }

  pub times_on : {m o : Limits} {n k : ℕ} {ps qs : List (Bool × Tree)} {ts us vs ws : List Token}
      → Times m n ps ts us → Times o k qs vs ws → ts ≡ vs → Ends 5 ws → Further (Times o k) ps qs us ws
  times_on {qs = qs} {vs = vs} no_time r e ends = record { rest = qs; from = vs; same = e; are = refl; reads = r }
  times_on (time {k = k} {inverse = s} i h f r) no_time e ends = absurd (omega (arith, binds_so i, ap front_binds e, multiplies_binds k s h))
  times_on (time i h f r) (time {t = u} j h' g r') e ends =
      let same = factor_one f g (same_tail i j e) in
      let sign = same_sign multiplies (same_kind i j e) h h' in
      more_of _ (λ i. (sign i, same.one i)) (times_on r r' same.rest ends)

  pub term_one : {m o : Limits} {n k : ℕ} {t u : Tree} {ts us vs ws : List Token}
      → Term m n t ts us → Term o k u vs ws → ts ≡ vs → Ends 5 us → Ends 5 ws → Same t u us ws
  term_one (term f r) (term g s) e a b =
      let same = factor_one f g e in
      let more = further_done _ 5 (times_done _ _) (times_on r s same.rest b) a in
      record { one = both (one_or_parts Product) same.one more.one; rest = more.rest }

  pub adds_on : {m o : Limits} {n k : ℕ} {ps qs : List (Bool × Tree)} {ts us vs ws : List Token}
      → Adds m n ps ts us → Adds o k qs vs ws → ts ≡ vs → Ends 5 us → Ends 4 ws → Further (Adds o k) ps qs us ws
  adds_on {qs = qs} {vs = vs} no_add r e a b = record { rest = qs; from = vs; same = e; are = refl; reads = r }
  adds_on (add {k = k} {inverse = s} i h f r) no_add e a b = absurd (omega (arith, binds_so i, ap front_binds e, adds_binds k s h))
  adds_on (add i h f r) (add j h' g r') e a b =
      let same = term_one f g (same_tail i j e) (adds_ends r a) (adds_ends r' (weaker 4 5 _ b (omega arith))) in
      let sign = same_sign adds (same_kind i j e) h h' in
      more_of _ (λ i. (sign i, same.one i)) (adds_on r r' same.rest a b)

  pub sums_one : {m o : Limits} {n k : ℕ} {t u : Tree} {ts us vs ws : List Token}
      → Sums m n t ts us → Sums o k u vs ws → ts ≡ vs → Ends 4 us → Ends 4 ws → Same t u us ws
  sums_one (sum f r) (sum g s) e a b =
      let a' = weaker 4 5 _ a (omega arith) in
      let same = term_one f g e (adds_ends r a') (adds_ends s (weaker 4 5 _ b (omega arith))) in
      let more = further_done _ 4 (adds_done _ _) (adds_on r s same.rest a' b) a in
      record { one = both (one_or_parts Sum) same.one more.one; rest = more.rest }

  pub tested_one : {m o : Limits} {n k : ℕ} {a b t u : Tree} {ts us vs ws : List Token}
      → Tested m n a t ts us → Tested o k b u vs ws → a ≡ b → ts ≡ vs → Ends 3 us → Ends 3 ws → Same t u us ws
  tested_one alone alone one e x y = record { one = one; rest = e }
  tested_one alone (compare {k = k} {sign = s} i h f) one e x y = absurd (omega (arith, binds_so i, ap front_binds e, sign_binds k s h))
  tested_one alone (is_null i j) one e x y = absurd (omega (arith, binds_so i, ap front_binds e))
  tested_one alone (is_not_null i j k) one e x y = absurd (omega (arith, binds_so i, ap front_binds e))
  tested_one (compare {k = k} {sign = s} i h f) alone one e x y = absurd (omega (arith, binds_so i, ap front_binds e, sign_binds k s h))
  tested_one (compare i h f) (compare j h' g) one e x y =
      let same = sums_one f g (same_tail i j e) (weaker 3 4 _ x (omega arith)) (weaker 3 4 _ y (omega arith)) in
      let sign = same_sign sign_of (same_kind i j e) h h' in
      record { one = λ i. Compare (one i) (sign i) (same.one i); rest = same.rest }
  tested_one (compare i h f) (is_null j _) one e x y = absurd (clash (sym (same_kind i j e)) h)
  tested_one (compare i h f) (is_not_null j _ _) one e x y = absurd (clash (sym (same_kind i j e)) h)
  tested_one (is_null i j) alone one e x y = absurd (omega (arith, binds_so i, ap front_binds e))
  tested_one (is_null i _) (compare j h g) one e x y = absurd (clash (same_kind i j e) h)
  tested_one (is_null i j) (is_null k l) one e x y = record { one = ap IsNull one; rest = same_tail j l (same_tail i k e) }
  tested_one (is_null i j) (is_not_null k l _) one e x y = absurd (let h = same_kind j l (same_tail i k e) in cc)
  tested_one (is_not_null i j _) alone one e x y = absurd (omega (arith, binds_so i, ap front_binds e))
  tested_one (is_not_null i _ _) (compare j h g) one e x y = absurd (clash (same_kind i j e) h)
  tested_one (is_not_null i j _) (is_null k l) one e x y = absurd (let h = same_kind j l (same_tail i k e) in cc)
  tested_one (is_not_null i j p) (is_not_null k l q) one e x y = record { one = ap IsNotNull one; rest = same_tail p q (same_tail j l (same_tail i k e)) }

  pub test_one : {m o : Limits} {n k : ℕ} {t u : Tree} {ts us vs ws : List Token}
      → Test m n t ts us → Test o k u vs ws → ts ≡ vs → Ends 3 us → Ends 3 ws → Same t u us ws
  test_one (test_ f r) (test_ g s) e a b =
      let same = sums_one f g e (tested_ends r (weaker 3 4 _ a (omega arith))) (tested_ends s (weaker 3 4 _ b (omega arith))) in
      tested_one r s same.one same.rest a b

  pub neg_one : {m o : Limits} {n k : ℕ} {t u : Tree} {ts us vs ws : List Token}
      → Neg m n t ts us → Neg o k u vs ws → ts ≡ vs → Ends 3 us → Ends 3 ws → Same t u us ws
  neg_one (not i f) (not j g) e a b = let same = neg_one f g (same_tail i j e) a b in record { one = ap Not same.one; rest = same.rest }
  neg_one (not i f) (test g) e a b = absurd (let h = test_opens g in let l = ap front_opens (sym e ∙ i) in cc)
  neg_one (test f) (not j g) e a b = absurd (let h = test_opens f in let l = ap front_opens (e ∙ j) in cc)
  neg_one (test f) (test g) e a b = test_one f g e a b

  pub ands_on : {m o : Limits} {n k : ℕ} {ps qs : List Tree} {ts us vs ws : List Token}
      → Ands m n ps ts us → Ands o k qs vs ws → ts ≡ vs → Ends 3 us → Ends 2 ws → Further (Ands o k) ps qs us ws
  ands_on {qs = qs} {vs = vs} no_and r e a b = record { rest = qs; from = vs; same = e; are = refl; reads = r }
  ands_on (and i f r) no_and e a b = absurd (omega (arith, binds_so i, ap front_binds e))
  ands_on (and i f r) (and j g s) e a b =
      let same = neg_one f g (same_tail i j e) (ands_ends r a) (ands_ends s (weaker 2 3 _ b (omega arith))) in
      more_of _ same.one (ands_on r s same.rest a b)

  pub conj_one : {m o : Limits} {n k : ℕ} {t u : Tree} {ts us vs ws : List Token}
      → Conj m n t ts us → Conj o k u vs ws → ts ≡ vs → Ends 2 us → Ends 2 ws → Same t u us ws
  conj_one (conj f r) (conj g s) e a b =
      let a' = weaker 2 3 _ a (omega arith) in
      let same = neg_one f g e (ands_ends r a') (ands_ends s (weaker 2 3 _ b (omega arith))) in
      let more = further_done _ 2 (ands_done _ _) (ands_on r s same.rest a' b) a in
      record { one = both (one_or And) same.one more.one; rest = more.rest }

  pub ors_on : {m o : Limits} {n k : ℕ} {ps qs : List Tree} {ts us vs ws : List Token}
      → Ors m n ps ts us → Ors o k qs vs ws → ts ≡ vs → Ends 2 us → Ends 1 ws → Further (Ors o k) ps qs us ws
  ors_on {qs = qs} {vs = vs} no_or r e a b = record { rest = qs; from = vs; same = e; are = refl; reads = r }
  ors_on (or i f r) no_or e a b = absurd (omega (arith, binds_so i, ap front_binds e))
  ors_on (or i f r) (or j g s) e a b =
      let same = conj_one f g (same_tail i j e) (ors_ends r a) (ors_ends s (weaker 1 2 _ b (omega arith))) in
      more_of _ same.one (ors_on r s same.rest a b)

  pub expr_one : {m o : Limits} {n k : ℕ} {t u : Tree} {ts us vs ws : List Token}
      → Expr m n t ts us → Expr o k u vs ws → ts ≡ vs → Ends 1 us → Ends 1 ws → Same t u us ws
  expr_one (expr f r) (expr g s) e a b =
      let a' = weaker 1 2 _ a (omega arith) in
      let same = conj_one f g e (ors_ends r a') (ors_ends s (weaker 1 2 _ b (omega arith))) in
      let more = further_done _ 1 (ors_done _ _) (ors_on r s same.rest a' b) a in
      record { one = both (one_or Or) same.one more.one; rest = more.rest }
