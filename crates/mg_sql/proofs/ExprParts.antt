-- What is read and refused of each rule of an expression, by what is read and refused of its parts.
use Rattle.std.proofs.Common.{◌≡◌, ◌≢◌, ℕ, zero, suc, ◌<◌, ◌≤◌, Bool, true, false, List, [], ◌∷◌, ◌++◌, length, Option, Some, None, append-nil, refl, sym, ◌∙◌, ap, subst, arith, ℤ, pos, append_assoc}
use Rattle.mg_expr.specs.declared.expr.Sign.{Sign}
use Rattle.mg_expr.specs.Trees.{Tree, Or, And, Not, Compare, IsNull, IsNotNull, Sum, Product, Minus, Integer, Text, Null, Name}
use Rattle.mg_sql.specs.declared.token.Kind.{Kind}
use Rattle.mg_sql.specs.declared.token.Kind.TheVariants as kinds
use Rattle.mg_sql.specs.Tokens.{Token, token, Takes}
use Rattle.mg_sql.specs.Spelling.{spelling, number, capitals, quoted}
use Rattle.mg_sql.specs.Lexing.{Lexes, none, one, Stands, between}
use Rattle.mg_sql.specs.Ends.{binds, front_binds, Ends, opens, front_opens, kind_in}
use Rattle.mg_sql.specs.Grammar.{Limits, one_or, one_or_parts, sign_of, adds, multiplies}
use Rattle.mg_sql.specs.Grammar.{Expr, expr, Ors, no_or, or, Conj, conj, Ands, no_and, and, Neg, not, test, Test, test_, Tested, alone, compare, is_null, is_not_null}
use Rattle.mg_sql.specs.Grammar.{Sums, sum, Adds, no_add, add, Term, term, Times, no_time, time, Factor, minus, parens, integer, text, null, name}
use Rattle.mg_sql.specs.Statements.{shift}
use Rattle.mg_sql.specs.Reading.{the_limits, Allows, Reads, Completes, CompletesBeyond, Refuses, One}
use Rattle.mg_sql.proofs.Unique.{Same, Further, clash, factor_at, FactorAt, factor_one, factor_opens, times_on, times_ends, adds_ends, tested_ends, ands_ends, ors_ends, sign_binds, adds_binds, multiplies_binds, binds_so, same_tail, same_kind, weaker, term_one, adds_on, sums_one, tested_one, test_one, neg_one, ands_on, conj_one, ors_on, expr_one, test_opens}
use Rattle.mg_sql.proofs.Refusing.{Inner, Closes, ClosesFirst, ClosesBehind, reads_two, reads_as, reads_one, refuses_first, refuses_second, refuses_behind, refuses_here, refuses_over, first_completes, first_kind}

-- NULL stands wherever an expression may
abbrev pub null_token : Token
null_token = token kinds.Null (spelling kinds.Null)

factor_completes : (n : ℕ) → Completes Factor the_limits n []
factor_completes n = record { tree = Null; more = null_token ∷ []; reads = λ most m rest allows high. null refl }

-- factor: minus

pub minus_read : {n : ℕ} {t : Tree} {s : List ℕ} {from mid to : ℕ}
    → Reads (One kinds.Minus) n tt s from mid → Reads Factor n t s mid to → Reads Factor (suc n) (Minus t) s from to
minus_read a f = reads_two (One kinds.Minus) Factor Factor true (λ most m ts us vs o g. minus o.takes g) a f

pub minus_refuses : {n : ℕ} {always : Bool} {x : Token} {s : List ℕ} {from mid to : ℕ}
    → Reads (One kinds.Minus) n tt s from mid → Refuses Factor 6 n always x s mid to → Refuses Factor 6 (suc n) always x s from to
minus_refuses a f = refuses_second (One kinds.Minus) Factor Factor true 6 6
    (λ t. record { tree = Minus t; close = []; closes = λ most m ts us vs o g. minus o.takes g })
    (λ most m t ts us rest o d ends. let at = factor_at d o.takes refl in record { levels = at.0; same = at.2; tree = at.1; rest = rest; ends = ends; reads = at.4 }) a f

-- a level too many
pub minus_deep : {bytes : List ℕ} {s : List ℕ} {at : ℕ} → Refuses Factor 6 0 false (token kinds.Minus bytes) s at at
minus_deep {bytes = bytes} = refuses_over Factor 6 0 (factor_completes 0)
    (λ most m t more rest a high ends d. let at = factor_at d refl refl in omega (arith, at.2))
    (record {
      least = the_limits;
      levels = 1;
      allows = record { name = omega arith; number = omega arith };
      deeper = omega arith;
      completes = record { tree = Minus Null; more = null_token ∷ []; reads = λ most m rest allows high. one_level m bytes rest high };
    }) where
      one_level : {most : Limits} (m : ℕ) (bytes : List ℕ) (rest : List Token) → 1 ≤ m → Factor most m (Minus Null) (token kinds.Minus bytes ∷ null_token ∷ rest) rest
      one_level zero bytes rest high = absurd (omega arith)
      one_level (suc m) bytes rest high = minus refl (null refl)

-- factor: parentheses

pub record Opened (most : Limits) (n : ℕ) (t : Tree) (ts us : List Token) : Type 0 where
  pub bytes : List ℕ
  pub mid : List Token
  pub open_ : Takes kinds.Open bytes ts mid
  pub inner : Expr most n t mid us

pub opened_read : {n : ℕ} {t : Tree} {s : List ℕ} {from mid to : ℕ}
    → Reads (One kinds.Open) n tt s from mid → Reads Expr n t s mid to → Reads Opened n t s from to
opened_read a f = reads_two (One kinds.Open) Expr Opened false (λ most m ts us vs o g. record { bytes = o.bytes; mid = us; open_ = o.takes; inner = g }) a f

pub parens_read : {n : ℕ} {t : Tree} {s : List ℕ} {from mid to : ℕ}
    → Reads Opened n t s from mid → Reads (One kinds.Close) n tt s mid to → Reads Factor (suc n) t s from to
parens_read a f = reads_two Opened (One kinds.Close) Factor true (λ most m ts us vs o c. parens o.open_ o.inner c.takes) a f

abbrev pub close_token : Token
close_token = token kinds.Close (spelling kinds.Close)

pub parens_inner_refuses : {n : ℕ} {always : Bool} {x : Token} {s : List ℕ} {from mid to : ℕ}
    → Reads (One kinds.Open) n tt s from mid → Refuses Expr 1 n always x s mid to → Refuses Factor 6 (suc n) always x s from to
parens_inner_refuses a f = refuses_second (One kinds.Open) Expr Factor true 1 6
    (λ t. record { tree = t; close = close_token ∷ []; closes = λ most m ts us vs o g. parens o.takes g refl })
    (λ most m t ts us rest o d ends. let at = factor_at d o.takes refl in
    record { levels = at.0; same = at.3; tree = t; rest = at.2; ends = omega (arith, binds_so at.5); reads = at.4 }) a f

pub parens_unclosed : {n : ℕ} {t : Tree} {x : Token} {s : List ℕ} {from to : ℕ}
    → Reads Opened n t s from to → x.kind ≢ kinds.Close → binds x.kind < 1 → Refuses Factor 6 (suc n) true x s from to
parens_unclosed {t = t} {x = x} a other weak = refuses_behind Opened Factor true 6
    (record { tree = t; close = close_token ∷ []; closes = λ most m ts vs allows o. parens o.open_ o.inner refl })
    (λ most m u ts more rest o d ends. let at = factor_at d o.open_ refl in
    let same = expr_one o.inner at.4 refl weak (omega (arith, binds_so at.5)) in
    other (ap kind_in (same.rest ∙ at.5))) a

pub parens_deep : {bytes : List ℕ} {s : List ℕ} {at : ℕ} → Refuses Factor 6 0 false (token kinds.Open bytes) s at at
parens_deep {bytes = bytes} = refuses_over Factor 6 0 (factor_completes 0)
    (λ most m t more rest a high ends d. let at = factor_at d refl refl in omega (arith, at.3))
    (record {
      least = the_limits;
      levels = 1;
      allows = record { name = omega arith; number = omega arith };
      deeper = omega arith;
      completes = record { tree = Null; more = null_token ∷ close_token ∷ []; reads = λ most m rest allows high. one_level m bytes rest high };
    }) where
      one_level : {most : Limits} (m : ℕ) (bytes : List ℕ) (rest : List Token) → 1 ≤ m → Factor most m Null (token kinds.Open bytes ∷ null_token ∷ close_token ∷ rest) rest
      one_level zero bytes rest high = absurd (omega arith)
      one_level (suc m) bytes rest high = parens refl (expr (conj (test (test_ (sum (term (null refl) no_time) no_add) alone)) no_and) no_or) refl

-- factor: one token

pub null_read : {n : ℕ} {s : List ℕ} {from to : ℕ} → Reads (One kinds.Null) n tt s from to → Reads Factor n Null s from to
null_read a = reads_as (One kinds.Null) Factor false (λ most m ts us allows o. null o.takes) a

pub integer_read : {digits : List ℕ} {s : List ℕ} {from to : ℕ} (n : ℕ) → Lexes s from (token kinds.Integer digits ∷ []) to
    → number digits ≤ 9223372036854775807 → Reads Factor n (Integer (pos (number digits))) s from to
integer_read n l small = record { front = _; lexes = l; reads = λ most m more allows high. integer refl (omega (arith, allows.number)) }

pub integer_large : {digits : List ℕ} {s : List ℕ} {at : ℕ} (n : ℕ) → 9223372036854775807 < number digits → Refuses Factor 6 n false (token kinds.Integer digits) s at at
integer_large {digits = digits} n large = refuses_over Factor 6 n (factor_completes n)
    (λ most m t more rest a high ends d. let at = factor_at d refl refl in omega (arith, a.number, at.0))
    (record {
      least = record { name = 31; number = number digits };
      levels = n;
      allows = record { name = omega arith; number = omega arith };
      deeper = omega arith;
      completes = record { tree = Integer (pos (number digits)); more = []; reads = λ most m rest allows high. integer refl (omega (arith, allows.number)) };
    })

pub text_read : {s : List ℕ} {from to : ℕ} (n : ℕ) (value : List ℕ) → Lexes s from (token kinds.Text (quoted value) ∷ []) to → Reads Factor n (Text value) s from to
text_read n value l = record { front = _; lexes = l; reads = λ most m more allows high. text refl }

pub name_read : {word : List ℕ} {s : List ℕ} {from to : ℕ} (n : ℕ) → Lexes s from (token kinds.Name word ∷ []) to
    → length word ≤ 31 → Reads Factor n (Name (capitals word)) s from to
name_read n l short = record { front = _; lexes = l; reads = λ most m more allows high. name refl (omega (arith, allows.name)) }

pub name_long : {word : List ℕ} {s : List ℕ} {at : ℕ} (n : ℕ) → 31 < length word → Refuses Factor 6 n false (token kinds.Name word) s at at
name_long {word = word} n long = refuses_over Factor 6 n (factor_completes n)
    (λ most m t more rest a high ends d. let at = factor_at d refl refl in omega (arith, a.name, at.0))
    (record {
      least = record { name = length word; number = 9223372036854775807 };
      levels = n;
      allows = record { name = omega arith; number = omega arith };
      deeper = omega arith;
      completes = record { tree = Name (capitals word); more = []; reads = λ most m rest allows high. name refl (omega (arith, allows.name)) };
    })

pub factor_wrong : {x : Token} {s : List ℕ} {at : ℕ} (n : ℕ) → opens x.kind ≡ false → Refuses Factor 6 n true x s at at
factor_wrong n wrong = refuses_here Factor 6 n (factor_completes n)
    (λ most m t more rest ends d. let h = factor_opens d in cc)

pub multiplies_binds_in : (k : Kind) (s : Bool) → multiplies k ≡ Some s → binds k ≡ 5
multiplies_binds_in k s h = multiplies_binds k s h

pub adds_binds_in : (k : Kind) (s : Bool) → adds k ≡ Some s → binds k ≡ 4
adds_binds_in k s h = adds_binds k s h

-- term: its parts

pub record TermSoFar (most : Limits) (n : ℕ) (p : Tree × List (Bool × Tree)) (ts us : List Token) : Type 0 where
  pub mid : List Token
  pub first : Factor most n p.0 ts mid
  pub more : Times most n p.1 mid us

pub record TermOpen (most : Limits) (n : ℕ) (p : (Tree × List (Bool × Tree)) × Bool) (ts us : List Token) : Type 0 where
  pub kind : Kind
  pub bytes : List ℕ
  pub mid : List Token
  pub so_far : TermSoFar most n p.0 ts mid
  pub sign : Takes kind bytes mid us
  pub is : multiplies kind ≡ Some p.1

term_snoc : {most : Limits} {n : ℕ} {ps : List (Bool × Tree)} {u : Tree} {k : Kind} {b : List ℕ} {sign : Bool} {ts us vs ws : List Token}
    → Times most n ps ts us → Takes k b us vs → multiplies k ≡ Some sign → Factor most n u vs ws → Times most n (ps ++ (sign, u) ∷ []) ts ws
term_snoc no_time i h f = time i h f no_time
term_snoc (time j g e r) i h f = time j g e (term_snoc r i h f)

-- what stands behind a sign
term_next : {o : Limits} {k : ℕ} {qs : List (Bool × Tree)} {kind : Kind} {b : List ℕ} {sign : Bool} {us vs ws : List Token}
    → Times o k qs us ws → Takes kind b us vs → multiplies kind ≡ Some sign → Ends 5 ws → Inner Factor false 6 o k vs
term_next no_time i h ends = absurd (omega (arith, binds_so i, multiplies_binds _ _ h))
term_next {o = o} {k = k} (time {t = t} {vs = end} j g f r) i h ends = record { levels = k; same = refl; tree = t; rest = end; ends = times_ends r (weaker 5 6 _ ends (omega arith)); reads = subst (λ x. Factor o k t x end) (same_tail j i refl) f }

term_behind : {m o : Limits} {n k : ℕ} {ps qs : List (Bool × Tree)} {kind : Kind} {b : List ℕ} {sign : Bool} {ts us vs ws : List Token}
    → Times m n ps ts us → Takes kind b us vs → multiplies kind ≡ Some sign → Times o k qs ts ws → Ends 5 ws → Inner Factor false 6 o k vs
term_behind r i h s ends = let f = times_on r s refl ends in term_next f.reads (sym f.same ∙ i) h ends

pub term_first : {n : ℕ} {t : Tree} {s : List ℕ} {from to : ℕ} → Reads Factor n t s from to → Reads TermSoFar n (t, []) s from to
term_first a = reads_as Factor TermSoFar false (λ most m ts us allows f. record { mid = us; first = f; more = no_time }) a

pub term_sign : {n : ℕ} {p : Tree × List (Bool × Tree)} {k : Kind} {sign : Bool} {s : List ℕ} {from mid to : ℕ} → multiplies k ≡ Some sign
    → Reads TermSoFar n p s from mid → Reads (One k) n tt s mid to → Reads TermOpen n (p, sign) s from to
term_sign {k = k} is a o = reads_two TermSoFar (One k) TermOpen false (λ most m ts us vs f o. record { kind = k; bytes = o.bytes; mid = us; so_far = f; sign = o.takes; is = is }) a o

pub term_more : {n : ℕ} {t u : Tree} {ps : List (Bool × Tree)} {sign : Bool} {s : List ℕ} {from mid to : ℕ}
    → Reads TermOpen n ((t, ps), sign) s from mid → Reads Factor n u s mid to → Reads TermSoFar n (t, ps ++ (sign, u) ∷ []) s from to
term_more a f = reads_two TermOpen Factor TermSoFar false (λ most m ts us vs o g. record { mid = o.so_far.mid; first = o.so_far.first; more = term_snoc o.so_far.more o.sign o.is g }) a f

pub term_done : {n : ℕ} {t : Tree} {ps : List (Bool × Tree)} {s : List ℕ} {from to : ℕ} → Reads TermSoFar n (t, ps) s from to → Reads Term n (one_or_parts Product t ps) s from to
term_done a = reads_as TermSoFar Term false (λ most m ts us allows f. term f.first f.more) a

term_part : (most : Limits) (m : ℕ) (t : Tree) (ts rest : List Token) → Term most m t ts rest → Ends 5 rest → Inner Factor false 6 most m ts
term_part most m t ts rest (term {t = u} {us = us} f r) ends = record { levels = m; same = refl; tree = u; rest = us; ends = times_ends r (weaker 5 6 _ ends (omega arith)); reads = f }

pub term_refuses : {n : ℕ} {always : Bool} {x : Token} {s : List ℕ} {from to : ℕ} → Refuses Factor 6 n always x s from to → Refuses Term 5 n always x s from to
term_refuses f = refuses_first Factor Term 6 5 (λ t. record { tree = t; close = []; closes = λ most m ts vs g. term g no_time }) term_part f

term_further : {n : ℕ} (p : (Tree × List (Bool × Tree)) × Bool) (most : Limits) (m : ℕ) (t : Tree) (ts us rest : List Token) → TermOpen the_limits n p ts us → Term most m t ts rest → Ends 5 rest → Inner Factor false 6 most m us
term_further p most m t ts us rest o (term {more = more} {vs = vs} f r) ends =
    let same = factor_one o.so_far.first f refl in
    term_behind o.so_far.more o.sign o.is (subst (λ x. Times most m more x rest) (sym same.rest) r) ends

pub term_refuses_more : {n : ℕ} {p : (Tree × List (Bool × Tree)) × Bool} {always : Bool} {x : Token} {s : List ℕ} {from mid to : ℕ}
    → Reads TermOpen n p s from mid → Refuses Factor 6 n always x s mid to → Refuses Term 5 n always x s from to
term_refuses_more {p = p} a f = refuses_second TermOpen Factor Term false 6 5
    (λ t. record { tree = one_or_parts Product p.0.0 (p.0.1 ++ (p.1, t) ∷ []); close = []; closes = λ most m ts us vs o g. term o.so_far.first (term_snoc o.so_far.more o.sign o.is g) }) (term_further p) a f

-- sums: its parts

pub record SumsSoFar (most : Limits) (n : ℕ) (p : Tree × List (Bool × Tree)) (ts us : List Token) : Type 0 where
  pub mid : List Token
  pub first : Term most n p.0 ts mid
  pub more : Adds most n p.1 mid us

pub record SumsOpen (most : Limits) (n : ℕ) (p : (Tree × List (Bool × Tree)) × Bool) (ts us : List Token) : Type 0 where
  pub kind : Kind
  pub bytes : List ℕ
  pub mid : List Token
  pub so_far : SumsSoFar most n p.0 ts mid
  pub sign : Takes kind bytes mid us
  pub is : adds kind ≡ Some p.1

sums_snoc : {most : Limits} {n : ℕ} {ps : List (Bool × Tree)} {u : Tree} {k : Kind} {b : List ℕ} {sign : Bool} {ts us vs ws : List Token}
    → Adds most n ps ts us → Takes k b us vs → adds k ≡ Some sign → Term most n u vs ws → Adds most n (ps ++ (sign, u) ∷ []) ts ws
sums_snoc no_add i h f = add i h f no_add
sums_snoc (add j g e r) i h f = add j g e (sums_snoc r i h f)

-- what stands behind a sign
sums_next : {o : Limits} {k : ℕ} {qs : List (Bool × Tree)} {kind : Kind} {b : List ℕ} {sign : Bool} {us vs ws : List Token}
    → Adds o k qs us ws → Takes kind b us vs → adds kind ≡ Some sign → Ends 4 ws → Inner Term false 5 o k vs
sums_next no_add i h ends = absurd (omega (arith, binds_so i, adds_binds _ _ h))
sums_next {o = o} {k = k} (add {t = t} {vs = end} j g f r) i h ends = record { levels = k; same = refl; tree = t; rest = end; ends = adds_ends r (weaker 4 5 _ ends (omega arith)); reads = subst (λ x. Term o k t x end) (same_tail j i refl) f }

sums_behind : {m o : Limits} {n k : ℕ} {ps qs : List (Bool × Tree)} {kind : Kind} {b : List ℕ} {sign : Bool} {ts us vs ws : List Token}
    → Adds m n ps ts us → Takes kind b us vs → adds kind ≡ Some sign → Adds o k qs ts ws → Ends 4 ws → Inner Term false 5 o k vs
sums_behind r i h s ends = let f = adds_on r s refl (omega (arith, binds_so i, adds_binds _ _ h)) ends in sums_next f.reads (sym f.same ∙ i) h ends

pub sums_first : {n : ℕ} {t : Tree} {s : List ℕ} {from to : ℕ} → Reads Term n t s from to → Reads SumsSoFar n (t, []) s from to
sums_first a = reads_as Term SumsSoFar false (λ most m ts us allows f. record { mid = us; first = f; more = no_add }) a

pub sums_sign : {n : ℕ} {p : Tree × List (Bool × Tree)} {k : Kind} {sign : Bool} {s : List ℕ} {from mid to : ℕ} → adds k ≡ Some sign
    → Reads SumsSoFar n p s from mid → Reads (One k) n tt s mid to → Reads SumsOpen n (p, sign) s from to
sums_sign {k = k} is a o = reads_two SumsSoFar (One k) SumsOpen false (λ most m ts us vs f o. record { kind = k; bytes = o.bytes; mid = us; so_far = f; sign = o.takes; is = is }) a o

pub sums_more : {n : ℕ} {t u : Tree} {ps : List (Bool × Tree)} {sign : Bool} {s : List ℕ} {from mid to : ℕ}
    → Reads SumsOpen n ((t, ps), sign) s from mid → Reads Term n u s mid to → Reads SumsSoFar n (t, ps ++ (sign, u) ∷ []) s from to
sums_more a f = reads_two SumsOpen Term SumsSoFar false (λ most m ts us vs o g. record { mid = o.so_far.mid; first = o.so_far.first; more = sums_snoc o.so_far.more o.sign o.is g }) a f

pub sums_done : {n : ℕ} {t : Tree} {ps : List (Bool × Tree)} {s : List ℕ} {from to : ℕ} → Reads SumsSoFar n (t, ps) s from to → Reads Sums n (one_or_parts Sum t ps) s from to
sums_done a = reads_as SumsSoFar Sums false (λ most m ts us allows f. sum f.first f.more) a

sums_part : (most : Limits) (m : ℕ) (t : Tree) (ts rest : List Token) → Sums most m t ts rest → Ends 4 rest → Inner Term false 5 most m ts
sums_part most m t ts rest (sum {t = u} {us = us} f r) ends = record { levels = m; same = refl; tree = u; rest = us; ends = adds_ends r (weaker 4 5 _ ends (omega arith)); reads = f }

pub sums_refuses : {n : ℕ} {always : Bool} {x : Token} {s : List ℕ} {from to : ℕ} → Refuses Term 5 n always x s from to → Refuses Sums 4 n always x s from to
sums_refuses f = refuses_first Term Sums 5 4 (λ t. record { tree = t; close = []; closes = λ most m ts vs g. sum g no_add }) sums_part f

sums_further : {n : ℕ} (p : (Tree × List (Bool × Tree)) × Bool) (most : Limits) (m : ℕ) (t : Tree) (ts us rest : List Token) → SumsOpen the_limits n p ts us → Sums most m t ts rest → Ends 4 rest → Inner Term false 5 most m us
sums_further p most m t ts us rest o (sum {more = more} {vs = vs} f r) ends =
    let same = term_one o.so_far.first f refl (adds_ends o.so_far.more (omega (arith, binds_so o.sign, adds_binds _ _ o.is))) (adds_ends r (weaker 4 5 _ ends (omega arith))) in
    sums_behind o.so_far.more o.sign o.is (subst (λ x. Adds most m more x rest) (sym same.rest) r) ends

pub sums_refuses_more : {n : ℕ} {p : (Tree × List (Bool × Tree)) × Bool} {always : Bool} {x : Token} {s : List ℕ} {from mid to : ℕ}
    → Reads SumsOpen n p s from mid → Refuses Term 5 n always x s mid to → Refuses Sums 4 n always x s from to
sums_refuses_more {p = p} a f = refuses_second SumsOpen Term Sums false 5 4
    (λ t. record { tree = one_or_parts Sum p.0.0 (p.0.1 ++ (p.1, t) ∷ []); close = []; closes = λ most m ts us vs o g. sum o.so_far.first (sums_snoc o.so_far.more o.sign o.is g) }) (sums_further p) a f

-- conj: its parts

pub record ConjSoFar (most : Limits) (n : ℕ) (p : Tree × List Tree) (ts us : List Token) : Type 0 where
  pub mid : List Token
  pub first : Neg most n p.0 ts mid
  pub more : Ands most n p.1 mid us

pub record ConjOpen (most : Limits) (n : ℕ) (p : Tree × List Tree) (ts us : List Token) : Type 0 where
  pub kind : Kind
  pub bytes : List ℕ
  pub mid : List Token
  pub so_far : ConjSoFar most n p ts mid
  pub sign : Takes kind bytes mid us
  pub is : kind ≡ kinds.And

conj_snoc : {most : Limits} {n : ℕ} {ps : List Tree} {u : Tree} {k : Kind} {b : List ℕ} {ts us vs ws : List Token}
    → Ands most n ps ts us → Takes k b us vs → k ≡ kinds.And → Neg most n u vs ws → Ands most n (ps ++ u ∷ []) ts ws
conj_snoc {b = b} {vs = vs} no_and i h f = and (i ∙ ap (λ x. token x b ∷ vs) h) f no_and
conj_snoc (and j e r) i h f = and j e (conj_snoc r i h f)

-- what stands behind a sign
conj_next : {o : Limits} {k : ℕ} {qs : List Tree} {kind : Kind} {b : List ℕ} {us vs ws : List Token}
    → Ands o k qs us ws → Takes kind b us vs → kind ≡ kinds.And → Ends 2 ws → Inner Neg false 3 o k vs
conj_next no_and i h ends = absurd (omega (arith, binds_so i, ap binds h))
conj_next {o = o} {k = k} (and {t = t} {vs = end} j f r) i h ends = record { levels = k; same = refl; tree = t; rest = end; ends = ands_ends r (weaker 2 3 _ ends (omega arith)); reads = subst (λ x. Neg o k t x end) (same_tail j i refl) f }

conj_behind : {m o : Limits} {n k : ℕ} {ps qs : List Tree} {kind : Kind} {b : List ℕ} {ts us vs ws : List Token}
    → Ands m n ps ts us → Takes kind b us vs → kind ≡ kinds.And → Ands o k qs ts ws → Ends 2 ws → Inner Neg false 3 o k vs
conj_behind r i h s ends = let f = ands_on r s refl (omega (arith, binds_so i, ap binds h)) ends in conj_next f.reads (sym f.same ∙ i) h ends

pub conj_first : {n : ℕ} {t : Tree} {s : List ℕ} {from to : ℕ} → Reads Neg n t s from to → Reads ConjSoFar n (t, []) s from to
conj_first a = reads_as Neg ConjSoFar false (λ most m ts us allows f. record { mid = us; first = f; more = no_and }) a

pub conj_sign : {n : ℕ} {p : Tree × List Tree} {k : Kind} {s : List ℕ} {from mid to : ℕ} → k ≡ kinds.And
    → Reads ConjSoFar n p s from mid → Reads (One k) n tt s mid to → Reads ConjOpen n p s from to
conj_sign {k = k} is a o = reads_two ConjSoFar (One k) ConjOpen false (λ most m ts us vs f o. record { kind = k; bytes = o.bytes; mid = us; so_far = f; sign = o.takes; is = is }) a o

pub conj_more : {n : ℕ} {t u : Tree} {ps : List Tree} {s : List ℕ} {from mid to : ℕ}
    → Reads ConjOpen n (t, ps) s from mid → Reads Neg n u s mid to → Reads ConjSoFar n (t, ps ++ u ∷ []) s from to
conj_more a f = reads_two ConjOpen Neg ConjSoFar false (λ most m ts us vs o g. record { mid = o.so_far.mid; first = o.so_far.first; more = conj_snoc o.so_far.more o.sign o.is g }) a f

pub conj_done : {n : ℕ} {t : Tree} {ps : List Tree} {s : List ℕ} {from to : ℕ} → Reads ConjSoFar n (t, ps) s from to → Reads Conj n (one_or And t ps) s from to
conj_done a = reads_as ConjSoFar Conj false (λ most m ts us allows f. conj f.first f.more) a

conj_part : (most : Limits) (m : ℕ) (t : Tree) (ts rest : List Token) → Conj most m t ts rest → Ends 2 rest → Inner Neg false 3 most m ts
conj_part most m t ts rest (conj {t = u} {us = us} f r) ends = record { levels = m; same = refl; tree = u; rest = us; ends = ands_ends r (weaker 2 3 _ ends (omega arith)); reads = f }

pub conj_refuses : {n : ℕ} {always : Bool} {x : Token} {s : List ℕ} {from to : ℕ} → Refuses Neg 3 n always x s from to → Refuses Conj 2 n always x s from to
conj_refuses f = refuses_first Neg Conj 3 2 (λ t. record { tree = t; close = []; closes = λ most m ts vs g. conj g no_and }) conj_part f

conj_further : {n : ℕ} (p : Tree × List Tree) (most : Limits) (m : ℕ) (t : Tree) (ts us rest : List Token) → ConjOpen the_limits n p ts us → Conj most m t ts rest → Ends 2 rest → Inner Neg false 3 most m us
conj_further p most m t ts us rest o (conj {more = more} {vs = vs} f r) ends =
    let same = neg_one o.so_far.first f refl (ands_ends o.so_far.more (omega (arith, binds_so o.sign, ap binds o.is))) (ands_ends r (weaker 2 3 _ ends (omega arith))) in
    conj_behind o.so_far.more o.sign o.is (subst (λ x. Ands most m more x rest) (sym same.rest) r) ends

pub conj_refuses_more : {n : ℕ} {p : Tree × List Tree} {always : Bool} {x : Token} {s : List ℕ} {from mid to : ℕ}
    → Reads ConjOpen n p s from mid → Refuses Neg 3 n always x s mid to → Refuses Conj 2 n always x s from to
conj_refuses_more {p = p} a f = refuses_second ConjOpen Neg Conj false 3 2
    (λ t. record { tree = one_or And p.0 (p.1 ++ t ∷ []); close = []; closes = λ most m ts us vs o g. conj o.so_far.first (conj_snoc o.so_far.more o.sign o.is g) }) (conj_further p) a f

-- expr: its parts

pub record ExprSoFar (most : Limits) (n : ℕ) (p : Tree × List Tree) (ts us : List Token) : Type 0 where
  pub mid : List Token
  pub first : Conj most n p.0 ts mid
  pub more : Ors most n p.1 mid us

pub record ExprOpen (most : Limits) (n : ℕ) (p : Tree × List Tree) (ts us : List Token) : Type 0 where
  pub kind : Kind
  pub bytes : List ℕ
  pub mid : List Token
  pub so_far : ExprSoFar most n p ts mid
  pub sign : Takes kind bytes mid us
  pub is : kind ≡ kinds.Or

expr_snoc : {most : Limits} {n : ℕ} {ps : List Tree} {u : Tree} {k : Kind} {b : List ℕ} {ts us vs ws : List Token}
    → Ors most n ps ts us → Takes k b us vs → k ≡ kinds.Or → Conj most n u vs ws → Ors most n (ps ++ u ∷ []) ts ws
expr_snoc {b = b} {vs = vs} no_or i h f = or (i ∙ ap (λ x. token x b ∷ vs) h) f no_or
expr_snoc (or j e r) i h f = or j e (expr_snoc r i h f)

-- what stands behind a sign
expr_next : {o : Limits} {k : ℕ} {qs : List Tree} {kind : Kind} {b : List ℕ} {us vs ws : List Token}
    → Ors o k qs us ws → Takes kind b us vs → kind ≡ kinds.Or → Ends 1 ws → Inner Conj false 2 o k vs
expr_next no_or i h ends = absurd (omega (arith, binds_so i, ap binds h))
expr_next {o = o} {k = k} (or {t = t} {vs = end} j f r) i h ends = record { levels = k; same = refl; tree = t; rest = end; ends = ors_ends r (weaker 1 2 _ ends (omega arith)); reads = subst (λ x. Conj o k t x end) (same_tail j i refl) f }

expr_behind : {m o : Limits} {n k : ℕ} {ps qs : List Tree} {kind : Kind} {b : List ℕ} {ts us vs ws : List Token}
    → Ors m n ps ts us → Takes kind b us vs → kind ≡ kinds.Or → Ors o k qs ts ws → Ends 1 ws → Inner Conj false 2 o k vs
expr_behind r i h s ends = let f = ors_on r s refl (omega (arith, binds_so i, ap binds h)) ends in expr_next f.reads (sym f.same ∙ i) h ends

pub expr_first : {n : ℕ} {t : Tree} {s : List ℕ} {from to : ℕ} → Reads Conj n t s from to → Reads ExprSoFar n (t, []) s from to
expr_first a = reads_as Conj ExprSoFar false (λ most m ts us allows f. record { mid = us; first = f; more = no_or }) a

pub expr_sign : {n : ℕ} {p : Tree × List Tree} {k : Kind} {s : List ℕ} {from mid to : ℕ} → k ≡ kinds.Or
    → Reads ExprSoFar n p s from mid → Reads (One k) n tt s mid to → Reads ExprOpen n p s from to
expr_sign {k = k} is a o = reads_two ExprSoFar (One k) ExprOpen false (λ most m ts us vs f o. record { kind = k; bytes = o.bytes; mid = us; so_far = f; sign = o.takes; is = is }) a o

pub expr_more : {n : ℕ} {t u : Tree} {ps : List Tree} {s : List ℕ} {from mid to : ℕ}
    → Reads ExprOpen n (t, ps) s from mid → Reads Conj n u s mid to → Reads ExprSoFar n (t, ps ++ u ∷ []) s from to
expr_more a f = reads_two ExprOpen Conj ExprSoFar false (λ most m ts us vs o g. record { mid = o.so_far.mid; first = o.so_far.first; more = expr_snoc o.so_far.more o.sign o.is g }) a f

pub expr_done : {n : ℕ} {t : Tree} {ps : List Tree} {s : List ℕ} {from to : ℕ} → Reads ExprSoFar n (t, ps) s from to → Reads Expr n (one_or Or t ps) s from to
expr_done a = reads_as ExprSoFar Expr false (λ most m ts us allows f. expr f.first f.more) a

expr_part : (most : Limits) (m : ℕ) (t : Tree) (ts rest : List Token) → Expr most m t ts rest → Ends 1 rest → Inner Conj false 2 most m ts
expr_part most m t ts rest (expr {t = u} {us = us} f r) ends = record { levels = m; same = refl; tree = u; rest = us; ends = ors_ends r (weaker 1 2 _ ends (omega arith)); reads = f }

pub expr_refuses : {n : ℕ} {always : Bool} {x : Token} {s : List ℕ} {from to : ℕ} → Refuses Conj 2 n always x s from to → Refuses Expr 1 n always x s from to
expr_refuses f = refuses_first Conj Expr 2 1 (λ t. record { tree = t; close = []; closes = λ most m ts vs g. expr g no_or }) expr_part f

expr_further : {n : ℕ} (p : Tree × List Tree) (most : Limits) (m : ℕ) (t : Tree) (ts us rest : List Token) → ExprOpen the_limits n p ts us → Expr most m t ts rest → Ends 1 rest → Inner Conj false 2 most m us
expr_further p most m t ts us rest o (expr {more = more} {vs = vs} f r) ends =
    let same = conj_one o.so_far.first f refl (ors_ends o.so_far.more (omega (arith, binds_so o.sign, ap binds o.is))) (ors_ends r (weaker 1 2 _ ends (omega arith))) in
    expr_behind o.so_far.more o.sign o.is (subst (λ x. Ors most m more x rest) (sym same.rest) r) ends

pub expr_refuses_more : {n : ℕ} {p : Tree × List Tree} {always : Bool} {x : Token} {s : List ℕ} {from mid to : ℕ}
    → Reads ExprOpen n p s from mid → Refuses Conj 2 n always x s mid to → Refuses Expr 1 n always x s from to
expr_refuses_more {p = p} a f = refuses_second ExprOpen Conj Expr false 2 1
    (λ t. record { tree = one_or Or p.0 (p.1 ++ t ∷ []); close = []; closes = λ most m ts us vs o g. expr o.so_far.first (expr_snoc o.so_far.more o.sign o.is g) }) (expr_further p) a f

-- test

pub alone_read : {n : ℕ} {t : Tree} {s : List ℕ} {from to : ℕ} → Reads Sums n t s from to → Reads Test n t s from to
alone_read a = reads_as Sums Test false (λ most m ts us allows f. test_ f alone) a

test_part : (most : Limits) (m : ℕ) (t : Tree) (ts rest : List Token) → Test most m t ts rest → Ends 3 rest → Inner Sums false 4 most m ts
test_part most m t ts rest (test_ {a = a} {us = us} f r) ends = record { levels = m; same = refl; tree = a; rest = us; ends = tested_ends r (weaker 3 4 _ ends (omega arith)); reads = f }

pub test_refuses : {n : ℕ} {always : Bool} {x : Token} {s : List ℕ} {from to : ℕ} → Refuses Sums 4 n always x s from to → Refuses Test 3 n always x s from to
test_refuses f = refuses_first Sums Test 4 3 (λ t. record { tree = t; close = []; closes = λ most m ts vs g. test_ g alone }) test_part f

pub record Comparing (most : Limits) (n : ℕ) (p : Tree × Sign) (ts us : List Token) : Type 0 where
  pub kind : Kind
  pub bytes : List ℕ
  pub mid : List Token
  pub first : Sums most n p.0 ts mid
  pub takes : Takes kind bytes mid us
  pub is : sign_of kind ≡ Some p.1

pub compare_sign : {n : ℕ} {t : Tree} {sign : Sign} {k : Kind} {s : List ℕ} {from mid to : ℕ} → sign_of k ≡ Some sign
    → Reads Sums n t s from mid → Reads (One k) n tt s mid to → Reads Comparing n (t, sign) s from to
compare_sign {k = k} is a o = reads_two Sums (One k) Comparing false (λ most m ts us vs f o. record { kind = k; bytes = o.bytes; mid = us; first = f; takes = o.takes; is = is }) a o

pub compare_read : {n : ℕ} {t u : Tree} {sign : Sign} {s : List ℕ} {from mid to : ℕ}
    → Reads Comparing n (t, sign) s from mid → Reads Sums n u s mid to → Reads Test n (Compare t sign u) s from to
compare_read a f = reads_two Comparing Sums Test false (λ most m ts us vs o g. test_ o.first (compare o.takes o.is g)) a f

compare_next : {o : Limits} {k : ℕ} {a t : Tree} {kind : Kind} {b : List ℕ} {sign : Sign} {us vs ws : List Token}
    → Tested o k a t us ws → Takes kind b us vs → sign_of kind ≡ Some sign → Ends 3 ws → Inner Sums false 4 o k vs
compare_next alone i h ends = absurd (omega (arith, binds_so i, sign_binds _ _ h))
compare_next {o = o} {k = k} (compare {t = t} {vs = end} j e f) i h ends =
    record { levels = k; same = refl; tree = t; rest = end; ends = weaker 3 4 _ ends (omega arith); reads = subst (λ x. Sums o k t x end) (same_tail j i refl) f }
compare_next (is_null j l) i h ends = absurd (clash (same_kind j i refl) h)
compare_next (is_not_null j l q) i h ends = absurd (clash (same_kind j i refl) h)

compare_further : {n : ℕ} (p : Tree × Sign) (most : Limits) (m : ℕ) (t : Tree) (ts us rest : List Token) → Comparing the_limits n p ts us → Test most m t ts rest → Ends 3 rest → Inner Sums false 4 most m us
compare_further p most m t ts us rest o (test_ {a = a} f r) ends =
    let same = sums_one o.first f refl (omega (arith, binds_so o.takes, sign_binds _ _ o.is)) (tested_ends r (weaker 3 4 _ ends (omega arith))) in
    compare_next r (sym same.rest ∙ o.takes) o.is ends

pub compare_refuses : {n : ℕ} {p : Tree × Sign} {always : Bool} {x : Token} {s : List ℕ} {from mid to : ℕ}
    → Reads Comparing n p s from mid → Refuses Sums 4 n always x s mid to → Refuses Test 3 n always x s from to
compare_refuses {p = p} a f = refuses_second Comparing Sums Test false 4 3
    (λ t. record { tree = Compare p.0 p.1 t; close = []; closes = λ most m ts us vs o g. test_ o.first (compare o.takes o.is g) }) (compare_further p) a f

pub record Asking (most : Limits) (n : ℕ) (t : Tree) (ts us : List Token) : Type 0 where
  pub bytes : List ℕ
  pub mid : List Token
  pub first : Sums most n t ts mid
  pub takes : Takes kinds.Is bytes mid us

pub asking_read : {n : ℕ} {t : Tree} {s : List ℕ} {from mid to : ℕ} → Reads Sums n t s from mid → Reads (One kinds.Is) n tt s mid to → Reads Asking n t s from to
asking_read a o = reads_two Sums (One kinds.Is) Asking false (λ most m ts us vs f o. record { bytes = o.bytes; mid = us; first = f; takes = o.takes }) a o

pub is_null_read : {n : ℕ} {t : Tree} {s : List ℕ} {from mid to : ℕ} → Reads Asking n t s from mid → Reads (One kinds.Null) n tt s mid to → Reads Test n (IsNull t) s from to
is_null_read a o = reads_two Asking (One kinds.Null) Test false (λ most m ts us vs f o. test_ f.first (is_null f.takes o.takes)) a o

pub record AskingNot (most : Limits) (n : ℕ) (t : Tree) (ts us : List Token) : Type 0 where
  pub bytes : List ℕ
  pub mid : List Token
  pub asking : Asking most n t ts mid
  pub takes : Takes kinds.Not bytes mid us

pub asking_not_read : {n : ℕ} {t : Tree} {s : List ℕ} {from mid to : ℕ} → Reads Asking n t s from mid → Reads (One kinds.Not) n tt s mid to → Reads AskingNot n t s from to
asking_not_read a o = reads_two Asking (One kinds.Not) AskingNot false (λ most m ts us vs f o. record { bytes = o.bytes; mid = us; asking = f; takes = o.takes }) a o

pub is_not_null_read : {n : ℕ} {t : Tree} {s : List ℕ} {from mid to : ℕ} → Reads AskingNot n t s from mid → Reads (One kinds.Null) n tt s mid to → Reads Test n (IsNotNull t) s from to
is_not_null_read a o = reads_two AskingNot (One kinds.Null) Test false (λ most m ts us vs f o. test_ f.asking.first (is_not_null f.asking.takes f.takes o.takes)) a o

-- what stands behind IS, and behind IS NOT
asked : {o : Limits} {k : ℕ} {a t : Tree} {b : List ℕ} {us vs ws : List Token}
    → Tested o k a t us ws → Takes kinds.Is b us vs → Ends 3 ws
    → ((c : List ℕ) → Takes kinds.Null c vs ws → ⊥) → ((c d : List ℕ) (xs : List Token) → Takes kinds.Not c vs xs → Takes kinds.Null d xs ws → ⊥) → ⊥
asked alone i ends bare never = omega (arith, binds_so i)
asked (compare j e f) i ends bare never = clash (same_kind i j refl) e
asked (is_null {c = c} j l) i ends bare never = bare c (sym (same_tail j i refl) ∙ l)
asked (is_not_null {c = c} {d = d} {vs = xs} j l q) i ends bare never = never c d xs (sym (same_tail j i refl) ∙ l) q

is_never : {n : ℕ} {x : Token} (p : Tree) → x.kind ≢ kinds.Null → x.kind ≢ kinds.Not
    → (most : Limits) (m : ℕ) (t : Tree) (ts more rest : List Token) → Asking the_limits n p ts (x ∷ more) → Test most m t ts rest → Ends 3 rest → ⊥
is_never p bare never most m t ts more rest o (test_ f r) ends =
    let same = sums_one o.first f refl (omega (arith, binds_so o.takes)) (tested_ends r (weaker 3 4 _ ends (omega arith))) in
    asked r (sym same.rest ∙ o.takes) ends (λ c l. bare (ap kind_in l)) (λ c d xs l q. never (ap kind_in l))

pub is_refuses : {n : ℕ} {t : Tree} {x : Token} {s : List ℕ} {from to : ℕ} → Reads Asking n t s from to → x.kind ≢ kinds.Null → x.kind ≢ kinds.Not → Refuses Test 3 n true x s from to
is_refuses {t = t} a bare never = refuses_behind Asking Test false 3
    (record { tree = IsNull t; close = null_token ∷ []; closes = λ most m ts vs allows o. test_ o.first (is_null o.takes refl) }) (is_never t bare never) a

is_not_never : {n : ℕ} {x : Token} (p : Tree) → x.kind ≢ kinds.Null
    → (most : Limits) (m : ℕ) (t : Tree) (ts more rest : List Token) → AskingNot the_limits n p ts (x ∷ more) → Test most m t ts rest → Ends 3 rest → ⊥
is_not_never p bare most m t ts more rest o (test_ f r) ends =
    let a = o.asking in
    let same = sums_one a.first f refl (omega (arith, binds_so a.takes)) (tested_ends r (weaker 3 4 _ ends (omega arith))) in
    asked r (sym same.rest ∙ a.takes) ends
    (λ c l. let h = same_kind o.takes l refl in absurd cc) (λ c d xs l q. bare (ap kind_in (same_tail o.takes l refl ∙ q)))

pub is_not_refuses : {n : ℕ} {t : Tree} {x : Token} {s : List ℕ} {from to : ℕ} → Reads AskingNot n t s from to → x.kind ≢ kinds.Null → Refuses Test 3 n true x s from to
is_not_refuses {t = t} a bare = refuses_behind AskingNot Test false 3
    (record { tree = IsNotNull t; close = null_token ∷ []; closes = λ most m ts vs allows o. test_ o.asking.first (is_not_null o.asking.takes o.takes refl) }) (is_not_never t bare) a

-- a test is no part of another one

pub record Compared (most : Limits) (n : ℕ) (p : (Tree × Sign) × Tree) (ts us : List Token) : Type 0 where
  pub mid : List Token
  pub first : Comparing most n p.0 ts mid
  pub second : Sums most n p.1 mid us

pub compared_read : {n : ℕ} {p : Tree × Sign} {u : Tree} {s : List ℕ} {from mid to : ℕ} → Reads Comparing n p s from mid → Reads Sums n u s mid to → Reads Compared n (p, u) s from to
compared_read a f = reads_two Comparing Sums Compared false (λ most m ts us vs o g. record { mid = us; first = o; second = g }) a f

compared_closed : {m o : Limits} {n k : ℕ} {a t u : Tree} {kind : Kind} {b : List ℕ} {sign : Sign} {us vs more ws : List Token} {x : Token}
    → Sums m n u vs (x ∷ more) → binds x.kind < 4 → 3 ≤ binds x.kind → Takes kind b us vs → sign_of kind ≡ Some sign → Tested o k a t us ws → Ends 3 ws → ⊥
compared_closed f low high i h alone ends = omega (arith, binds_so i, sign_binds _ _ h)
compared_closed f low high i h (compare j e g) ends = let same = sums_one f g (same_tail i j refl) low (weaker 3 4 _ ends (omega arith)) in let h = ap front_binds same.rest in omega arith
compared_closed f low high i h (is_null j l) ends = clash (same_kind j i refl) h
compared_closed f low high i h (is_not_null j l q) ends = clash (same_kind j i refl) h

compared_never : {n : ℕ} {x : Token} (p : (Tree × Sign) × Tree) → binds x.kind < 4 → 3 ≤ binds x.kind
    → (most : Limits) (m : ℕ) (t : Tree) (ts more rest : List Token) → Compared the_limits n p ts (x ∷ more) → Test most m t ts rest → Ends 3 rest → ⊥
compared_never p low high most m t ts more rest o (test_ f r) ends =
    let a = o.first in
    let same = sums_one a.first f refl (omega (arith, binds_so a.takes, sign_binds _ _ a.is)) (tested_ends r (weaker 3 4 _ ends (omega arith))) in
    compared_closed o.second low high (sym same.rest ∙ a.takes) a.is r ends

pub compared_refuses : {n : ℕ} {p : (Tree × Sign) × Tree} {x : Token} {s : List ℕ} {from to : ℕ} → Reads Compared n p s from to → binds x.kind < 4 → 3 ≤ binds x.kind → Refuses Test 3 n true x s from to
compared_refuses {p = p} a low high = refuses_behind Compared Test false 3
    (record { tree = Compare p.0.0 p.0.1 p.1; close = []; closes = λ most m ts vs allows o. test_ o.first.first (compare o.first.takes o.first.is o.second) }) (compared_never p low high) a

pub record Asked (most : Limits) (n : ℕ) (t : Tree) (ts us : List Token) : Type 0 where
  pub bytes : List ℕ
  pub mid : List Token
  pub asking : Asking most n t ts mid
  pub takes : Takes kinds.Null bytes mid us

pub asked_read : {n : ℕ} {t : Tree} {s : List ℕ} {from mid to : ℕ} → Reads Asking n t s from mid → Reads (One kinds.Null) n tt s mid to → Reads Asked n t s from to
asked_read a o = reads_two Asking (One kinds.Null) Asked false (λ most m ts us vs f o. record { bytes = o.bytes; mid = us; asking = f; takes = o.takes }) a o

asked_never : {n : ℕ} {x : Token} (p : Tree) → 3 ≤ binds x.kind
    → (most : Limits) (m : ℕ) (t : Tree) (ts more rest : List Token) → Asked the_limits n p ts (x ∷ more) → Test most m t ts rest → Ends 3 rest → ⊥
asked_never p high most m t ts more rest o (test_ f r) ends =
    let a = o.asking in
    let same = sums_one a.first f refl (omega (arith, binds_so a.takes)) (tested_ends r (weaker 3 4 _ ends (omega arith))) in
    asked r (sym same.rest ∙ a.takes) ends
    (λ c l. let e = ap front_binds (same_tail o.takes l refl) in omega arith) (λ c d xs l q. let h = same_kind o.takes l refl in absurd cc)

pub asked_refuses : {n : ℕ} {t : Tree} {x : Token} {s : List ℕ} {from to : ℕ} → Reads Asked n t s from to → 3 ≤ binds x.kind → Refuses Test 3 n true x s from to
asked_refuses {t = t} a high = refuses_behind Asked Test false 3
    (record { tree = IsNull t; close = []; closes = λ most m ts vs allows o. test_ o.asking.first (is_null o.asking.takes o.takes) }) (asked_never t high) a

pub record AskedNot (most : Limits) (n : ℕ) (t : Tree) (ts us : List Token) : Type 0 where
  pub bytes : List ℕ
  pub mid : List Token
  pub asking : AskingNot most n t ts mid
  pub takes : Takes kinds.Null bytes mid us

pub asked_not_read : {n : ℕ} {t : Tree} {s : List ℕ} {from mid to : ℕ} → Reads AskingNot n t s from mid → Reads (One kinds.Null) n tt s mid to → Reads AskedNot n t s from to
asked_not_read a o = reads_two AskingNot (One kinds.Null) AskedNot false (λ most m ts us vs f o. record { bytes = o.bytes; mid = us; asking = f; takes = o.takes }) a o

asked_not_never : {n : ℕ} {x : Token} (p : Tree) → 3 ≤ binds x.kind
    → (most : Limits) (m : ℕ) (t : Tree) (ts more rest : List Token) → AskedNot the_limits n p ts (x ∷ more) → Test most m t ts rest → Ends 3 rest → ⊥
asked_not_never p high most m t ts more rest o (test_ f r) ends =
    let a = o.asking.asking in
    let same = sums_one a.first f refl (omega (arith, binds_so a.takes)) (tested_ends r (weaker 3 4 _ ends (omega arith))) in
    asked r (sym same.rest ∙ a.takes) ends
    (λ c l. let h = same_kind o.asking.takes l refl in absurd cc)
    (λ c d xs l q. let e = ap front_binds (same_tail o.takes q (same_tail o.asking.takes l refl)) in omega arith)

pub asked_not_refuses : {n : ℕ} {t : Tree} {x : Token} {s : List ℕ} {from to : ℕ} → Reads AskedNot n t s from to → 3 ≤ binds x.kind → Refuses Test 3 n true x s from to
asked_not_refuses {t = t} a high = refuses_behind AskedNot Test false 3
    (record { tree = IsNotNull t; close = []; closes = λ most m ts vs allows o. test_ o.asking.asking.first (is_not_null o.asking.asking.takes o.asking.takes o.takes) }) (asked_not_never t high) a

-- neg

pub not_read : {n : ℕ} {t : Tree} {s : List ℕ} {from mid to : ℕ}
    → Reads (One kinds.Not) n tt s from mid → Reads Neg n t s mid to → Reads Neg (suc n) (Not t) s from to
not_read a f = reads_two (One kinds.Not) Neg Neg true (λ most m ts us vs o g. not o.takes g) a f

not_further : {n : ℕ} (most : Limits) (m : ℕ) (t : Tree) (ts us rest : List Token) → One kinds.Not the_limits n tt ts us → Neg most m t ts rest → Ends 3 rest → Inner Neg true 3 most m us
not_further most m t ts us rest o (not {n = k} {t = u} j g) ends = record { levels = k; same = refl; tree = u; rest = rest; ends = ends; reads = subst (λ x. Neg most k u x rest) (same_tail j o.takes refl) g }
not_further most m t ts us rest o (test g) ends = let h = test_opens g in let l = ap front_opens o.takes in absurd cc

pub not_refuses : {n : ℕ} {always : Bool} {x : Token} {s : List ℕ} {from mid to : ℕ}
    → Reads (One kinds.Not) n tt s from mid → Refuses Neg 3 n always x s mid to → Refuses Neg 3 (suc n) always x s from to
not_refuses a f = refuses_second (One kinds.Not) Neg Neg true 3 3
    (λ t. record { tree = Not t; close = []; closes = λ most m ts us vs o g. not o.takes g }) not_further a f

null_tests : {most : Limits} {n : ℕ} (rest : List Token) → Test most n Null (null_token ∷ rest) rest
null_tests rest = test_ (sum (term (null refl) no_time) no_add) alone

not_never : {bytes : List ℕ} (most : Limits) (m : ℕ) (t : Tree) (more rest : List Token) → m ≤ 0 → Neg most m t (token kinds.Not bytes ∷ more) rest → ⊥
not_never most m t more rest high (not j g) = omega arith
not_never most m t more rest high (test g) = let h = test_opens g in absurd cc

pub not_deep : {bytes : List ℕ} {s : List ℕ} {at : ℕ} → Refuses Neg 3 0 false (token kinds.Not bytes) s at at
not_deep {bytes = bytes} = refuses_over Neg 3 0 (record { tree = Null; more = null_token ∷ []; reads = λ most m rest allows high. test (null_tests rest) })
    (λ most m t more rest a high ends d. not_never most m t more rest high d)
    (record {
      least = the_limits;
      levels = 1;
      allows = record { name = omega arith; number = omega arith };
      deeper = omega arith;
      completes = record { tree = Not Null; more = null_token ∷ []; reads = λ most m rest allows high. one_level m bytes rest high };
    }) where
      one_level : {most : Limits} (m : ℕ) (bytes : List ℕ) (rest : List Token) → 1 ≤ m → Neg most m (Not Null) (token kinds.Not bytes ∷ null_token ∷ rest) rest
      one_level zero bytes rest high = absurd (omega arith)
      one_level (suc m) bytes rest high = not refl (test (null_tests rest))

pub test_read : {n : ℕ} {t : Tree} {s : List ℕ} {from to : ℕ} → Reads Test n t s from to → Reads Neg n t s from to
test_read a = reads_as Test Neg false (λ most m ts us allows f. test f) a

neg_part : (most : Limits) (m : ℕ) (t : Tree) (ts rest : List Token) → kind_in ts ≢ kinds.Not → Neg most m t ts rest → Ends 3 rest → Inner Test false 3 most m ts
neg_part most m t ts rest other (not j g) ends = absurd (other (ap kind_in j))
neg_part most m t ts rest other (test g) ends = record { levels = m; same = refl; tree = t; rest = rest; ends = ends; reads = g }

pub test_refused : {n : ℕ} {always : Bool} {text : List ℕ} {from to e f : ℕ} {j k : Kind}
    → j ≢ kinds.Not → Stands text from e j → Stands text to f k
    → Refuses Test 3 n always (token k (between text to f)) text from to → Refuses Neg 3 n always (token k (between text to f)) text from to
test_refused {n = n} {text = bytes} {to = to} {f = f} {j = j} {k = k} other a b q = record {
  front = q.front;
  lexes = q.lexes;
  viable = first_completes Test Neg the_limits n q.front (λ t. record { tree = t; close = []; closes = λ most m ts vs g. test g }) q.viable;
  blocked = λ most m t more rest within ends reads.
      let i = neg_part most m t (q.front ++ token k (between bytes to f) ∷ more) rest (λ h. other (sym (first_kind more q.lexes a b) ∙ h)) reads ends in
      q.blocked most i.levels i.tree more i.rest (λ h. let w = within h in (w.0, subst (λ k. k ≤ n) i.same w.1)) i.ends i.reads;
  allowed = λ h. let c = q.allowed h in record {
    least = c.least;
    levels = c.levels;
    allows = c.allows;
    deeper = c.deeper;
    completes = first_completes Test Neg c.least c.levels (q.front ++ token k (between bytes to f) ∷ []) (λ t. record { tree = t; close = []; closes = λ most m ts vs g. test g }) c.completes;
  };
}
