-- Symbols: which bytes are one, and that no longer token begins so.
use Rattle.std.proofs.Common.{◌≡◌, ℕ, zero, suc, ◌+◌, ◌-◌, ◌<◌, ◌≤◌, Bool, true, false, if◌then◌else◌, List, [], ◌∷◌, length, get_or, nat_eq, nat_lt, Option, Some, None, refl, sym, ◌∙◌, ap, subst, arith}
use Rattle.std.proofs.lemmas.Bool.{eqb-true, and_parts}
use Rattle.std.proofs.lemmas.Bool.Decides.{nat_tests}
use Rattle.std.specs.List.{list_all}
use borrow.Author.Tests.{ltb-true, ltb-false}
use Rattle.mg_sql.specs.declared.token.Kind.{Kind}
use Rattle.mg_sql.specs.declared.token.Kind.TheVariants as kinds
use Rattle.mg_sql.specs.Spelling.{IsSpelled, spelling, capitals, capital, is_digit, is_letter, is_word_byte, is_blank, quoted}
use Rattle.mg_sql.specs.Scanning.{lookup, symbols, single_of, pair_of, pair_at, IsOther, IsTextTo, BeginsNoText}
use Rattle.mg_sql.specs.Lexing.{Stands, spelled, stray, between, is_past}
use Rattle.mg_sql.proofs.Lexemes.{head_of, classed}
use Rattle.mg_sql.proofs.Scanned.{between_at, between_len}

abbrev is_some : Option Kind → Bool
is_some None = false
is_some (Some k) = true

-- a symbol is one byte that is one, or two that are one
abbrev symbol_ok : List ℕ → Bool
symbol_ok [] = true
symbol_ok (c ∷ []) = if is_letter c then true else is_some (single_of c)
symbol_ok (c ∷ d ∷ []) = if is_letter c then true else is_some (pair_of c d)
symbol_ok (c ∷ d ∷ e ∷ cs) = is_letter c

abbrev AreSpelled : List (ℕ × Kind) → Type 0
AreSpelled [] = Unit {0}
AreSpelled (e ∷ es) = (capitals (e.0 ∷ []) ≡ spelling e.1) × AreSpelled es

lookup_some : (c : ℕ) (es : List (ℕ × Kind)) (k : Kind) → AreSpelled es → lookup c es ≡ Some k → capitals (c ∷ []) ≡ spelling k
lookup_some c [] k all h = absurd cc
lookup_some c (e ∷ es) k all h = at (nat_eq c e.0) refl (lookup_some c es k all.1) where
  at : (t : Bool) → nat_eq c e.0 ≡ t → (lookup c es ≡ Some k → capitals (c ∷ []) ≡ spelling k) → capitals (c ∷ []) ≡ spelling k
  at true i more = let f = rw i at h in let g : e.1 ≡ k = cc in ap (λ x. capitals (x ∷ [])) (eqb-true c e.0 i) ∙ all.0 ∙ ap spelling g
  at false i more = more (rw i at h)

single_some : (c : ℕ) (k : Kind) → single_of c ≡ Some k → capitals (c ∷ []) ≡ spelling k
single_some c k h = lookup_some c symbols k (refl, (refl, (refl, (refl, (refl, (refl, (refl, (refl, (refl, (refl, (refl, tt))))))))))) h

capital_plain : (b : ℕ) → is_letter b ≡ false → capital b ≡ b
capital_plain b h = grind (arith, nat_tests)

capital_symbol : (b d : ℕ) → capital b ≡ d → d < 65 → b ≡ d
capital_symbol b d h low = grind (arith, nat_tests)

other_fixed : (j : Kind) (c : ℕ) (bs : List ℕ) → is_letter c ≡ false → capitals (c ∷ bs) ≡ spelling j → symbol_ok (spelling j) ≡ true → symbol_ok (c ∷ capitals bs) ≡ true
other_fixed j c bs letter e ok = ap (λ x. symbol_ok (x ∷ capitals bs)) (sym (capital_plain c letter)) ∙ ap symbol_ok e ∙ ok

-- what is spelled and begins so is a symbol
other_symbol : (j : Kind) (c : ℕ) (bs : List ℕ) → IsOther c → IsSpelled j (c ∷ bs) → symbol_ok (c ∷ capitals bs) ≡ true
other_symbol kinds.Name c bs o s = let w = s.0 in absurd (let h = ap (λ xs. is_letter (head_of xs)) w.parts ∙ w.letter in let l = o.letter in cc)
other_symbol kinds.Integer c bs o s = absurd (let h = (and_parts (is_digit c) (list_all is_digit bs) s.1).0 in let l = o.digit in cc)
other_symbol kinds.Text c bs o s = absurd (let h : nat_eq c 39 ≡ nat_eq 39 39 = ap (λ xs. nat_eq (head_of xs) 39) s.1 in let l = o.quote in cc)
other_symbol kinds.End c bs o s = absurd s
other_symbol kinds.Stray c bs o s = absurd s
other_symbol j c bs o s = other_fixed j c bs o.letter s refl

-- two bytes are a symbol, in capitals or not
pair_capital : (a b : ℕ) → is_some (pair_of a (capital b)) ≡ true → is_some (pair_of a b) ≡ true
pair_capital a b h = grind (arith, nat_tests)

-- no more than one byte
alone_symbol : (c : ℕ) (bs : List ℕ) → is_letter c ≡ false → symbol_ok (c ∷ capitals bs) ≡ true → 0 < length bs → is_some (pair_of c (get_or bs 0 0)) ≡ false → ⊥
alone_symbol c [] letter ok some none = omega arith
alone_symbol c (d ∷ []) letter ok some none = let h = rw letter at ok in let k = pair_capital c d h in cc
alone_symbol c (d ∷ e ∷ bs) letter ok some none = cc

-- no more than two bytes
two_symbol : (c d : ℕ) (bs : List ℕ) → is_letter c ≡ false → symbol_ok (c ∷ capitals (d ∷ bs)) ≡ true → 0 < length bs → ⊥
two_symbol c d [] letter ok some = omega arith
two_symbol c d (e ∷ bs) letter ok some = cc

one_byte : (xs : List ℕ) (c : ℕ) → length xs ≡ 1 → get_or xs 0 0 ≡ c → xs ≡ c ∷ []
one_byte [] c len first = absurd (omega arith)
one_byte (x ∷ []) c len first = ap (λ y. y ∷ []) first
one_byte (x ∷ y ∷ xs) c len first = absurd (omega arith)

two_bytes : (xs : List ℕ) (c d : ℕ) → length xs ≡ 2 → get_or xs 0 0 ≡ c → get_or xs 1 0 ≡ d → xs ≡ c ∷ d ∷ []
two_bytes [] c d len first second = absurd (omega arith)
two_bytes (x ∷ []) c d len first second = absurd (omega arith)
two_bytes (x ∷ y ∷ []) c d len first second = λ i. first i ∷ second i ∷ []
two_bytes (x ∷ y ∷ z ∷ xs) c d len first second = absurd (omega arith)

pair_some : (a b : ℕ) (k : Kind) → pair_of a b ≡ Some k → capitals (a ∷ b ∷ []) ≡ spelling k
pair_some a b k h = at (nat_eq a 60) (nat_eq a 62) (nat_eq b 62) (nat_eq b 61) refl refl refl refl where
  at : (t u v w : Bool) → nat_eq a 60 ≡ t → nat_eq a 62 ≡ u → nat_eq b 62 ≡ v → nat_eq b 61 ≡ w → capitals (a ∷ b ∷ []) ≡ spelling k
  at true u true w i j l m = let f = rw (i, l) at h in let g : kinds.Unequal ≡ k = cc in (λ n. capitals (eqb-true a 60 i n ∷ eqb-true b 62 l n ∷ [])) ∙ ap spelling g
  at true u false true i j l m = let f = rw (i, l, m) at h in let g : kinds.AtMost ≡ k = cc in (λ n. capitals (eqb-true a 60 i n ∷ eqb-true b 61 m n ∷ [])) ∙ ap spelling g
  at true u false false i j l m = let f = rw (i, l, m) at h in absurd cc
  at false true v true i j l m = let f = rw (i, j, m) at h in let g : kinds.AtLeast ≡ k = cc in (λ n. capitals (eqb-true a 62 j n ∷ eqb-true b 61 m n ∷ [])) ∙ ap spelling g
  at false true v false i j l m = let f = rw (i, j, m) at h in absurd cc
  at false false v w i j l m = let f = rw (i, j) at h in absurd cc

-- what stands between two places, as a first byte, a second and further ones
pub record Parts (text : List ℕ) (at other : ℕ) (j : Kind) : Type 0 where
  pub bytes : List ℕ
  pub len : length bytes + 1 ≡ other - at
  pub second : at + 1 < other → get_or bytes 0 0 ≡ get_or text (at + 1) 0
  pub is : IsSpelled j (get_or text at 0 ∷ bytes)

pub parts : (text : List ℕ) (at other : ℕ) (j : Kind) → at < other → other ≤ length text → IsSpelled j (between text at other) → Parts text at other j
parts text at other j low inside s = by (between text at other) refl where
  by : (bytes : List ℕ) → between text at other ≡ bytes → Parts text at other j
  by [] e = let l = ap length e in absurd (omega (arith, between_len text at other inside))
  by (b ∷ bs) e =
      let first : b ≡ get_or text at 0 = ap (λ xs. get_or xs 0 0) (sym e) ∙ between_at text at other 0 at (omega arith) (omega arith) inside in
      let len : length (b ∷ bs) ≡ other - at = ap length (sym e) ∙ between_len text at other inside in record {
        bytes = bs;
        len = omega arith;
        second = λ more. ap (λ xs. get_or xs 1 0) (sym e) ∙ between_at text at other 1 (at + 1) refl more inside;
        is = subst (λ x. IsSpelled j (x ∷ bs)) first (subst (λ xs. IsSpelled j xs) e s);
      }

-- one byte is the longest token
pub single_stands : (text : List ℕ) (at : ℕ) (k : Kind) → is_past text at ≡ false → at < length text → IsOther (get_or text at 0) → single_of (get_or text at 0) ≡ Some k
    → (at + 1 < length text → is_some (pair_of (get_or text at 0) (get_or text (at + 1) 0)) ≡ false)
    → (capitals (between text at (at + 1)) ≡ spelling k → IsSpelled k (between text at (at + 1))) → Stands text at (at + 1) k
single_stands text at k early inside o single none fixed = spelled early (omega arith) (omega arith) (fixed (ap capitals whole ∙ single_some (get_or text at 0) k single)) longer where
  whole : between text at (at + 1) ≡ get_or text at 0 ∷ []
  whole = one_byte (between text at (at + 1)) (get_or text at 0) (omega (arith, between_len text at (at + 1) (omega arith))) (between_at text at (at + 1) 0 at (omega arith) (omega arith) (omega arith))

  longer : (other : ℕ) (j : Kind) → at + 1 < other → other ≤ length text → IsSpelled j (between text at other) → ⊥
  longer other j later low s = let p = parts text at other j (omega arith) low s in
      alone_symbol (get_or text at 0) p.bytes o.letter (other_symbol j (get_or text at 0) p.bytes o p.is) (omega (arith, p.len))
      (ap (λ x. is_some (pair_of (get_or text at 0) x)) (p.second later) ∙ none (omega arith))

three_symbol : (c : ℕ) (bs : List ℕ) → is_letter c ≡ false → symbol_ok (c ∷ capitals bs) ≡ true → 1 < length bs → ⊥
three_symbol c [] letter ok some = omega arith
three_symbol c (d ∷ bs) letter ok some = two_symbol c d bs letter ok (omega arith)

-- two bytes are the longest token
pub pair_stands : (text : List ℕ) (at : ℕ) (k : Kind) → is_past text at ≡ false → at + 1 < length text → IsOther (get_or text at 0) → pair_of (get_or text at 0) (get_or text (at + 1) 0) ≡ Some k
    → (capitals (between text at (at + 2)) ≡ spelling k → IsSpelled k (between text at (at + 2))) → Stands text at (at + 2) k
pair_stands text at k early inside o pair fixed = spelled early (omega arith) (omega arith) (fixed (ap capitals whole ∙ pair_some (get_or text at 0) (get_or text (at + 1) 0) k pair)) longer where
  whole : between text at (at + 2) ≡ get_or text at 0 ∷ get_or text (at + 1) 0 ∷ []
  whole = two_bytes (between text at (at + 2)) (get_or text at 0) (get_or text (at + 1) 0) (omega (arith, between_len text at (at + 2) (omega arith)))
      (between_at text at (at + 2) 0 at (omega arith) (omega arith) (omega arith)) (between_at text at (at + 2) 1 (at + 1) refl (omega arith) (omega arith))

  longer : (other : ℕ) (j : Kind) → at + 2 < other → other ≤ length text → IsSpelled j (between text at other) → ⊥
  longer other j later low s = let p = parts text at other j (omega arith) low s in
      three_symbol (get_or text at 0) p.bytes o.letter (other_symbol j (get_or text at 0) p.bytes o p.is) (omega (arith, p.len))

first_symbol : (c : ℕ) (bs : List ℕ) → is_letter c ≡ false → symbol_ok (c ∷ capitals bs) ≡ true → is_some (single_of c) ≡ false → (0 < length bs → is_some (pair_of c (get_or bs 0 0)) ≡ false) → ⊥
first_symbol c [] letter ok single none = let h = rw letter at ok in cc
first_symbol c (d ∷ bs) letter ok single none = alone_symbol c (d ∷ bs) letter ok (omega arith) (none (omega arith))

-- a byte that begins no token
pub other_stands : (text : List ℕ) (at : ℕ) → is_past text at ≡ false → at < length text → (is_blank (get_or text at 0) ≡ true → ⊥) → IsOther (get_or text at 0) → is_some (single_of (get_or text at 0)) ≡ false
    → (at + 1 < length text → is_some (pair_of (get_or text at 0) (get_or text (at + 1) 0)) ≡ false) → Stands text at at kinds.Stray
other_stands text at early inside blank o single none = stray early inside blank (λ to j low high s. let p = parts text at to j low high s in
    first_symbol (get_or text at 0) p.bytes o.letter (other_symbol j (get_or text at 0) p.bytes o p.is) single
    (λ some. ap (λ x. is_some (pair_of (get_or text at 0) x)) (p.second (omega (arith, p.len))) ∙ none (omega (arith, p.len))))

capitals_some : (bytes : List ℕ) → 0 < length bytes → capitals bytes ≡ [] → ⊥
capitals_some [] some e = omega arith
capitals_some (b ∷ bs) some e = absurd cc

pub as_fixed : (k : Kind) (bytes : List ℕ) → 0 < length bytes → capitals bytes ≡ spelling k → IsSpelled k bytes
as_fixed kinds.Name bytes some e = absurd (capitals_some bytes some e)
as_fixed kinds.Integer bytes some e = absurd (capitals_some bytes some e)
as_fixed kinds.Text bytes some e = absurd (capitals_some bytes some e)
as_fixed kinds.End bytes some e = absurd (capitals_some bytes some e)
as_fixed kinds.Stray bytes some e = absurd (capitals_some bytes some e)
as_fixed k bytes some e = e

none_some : (o : Option Kind) → o ≡ None → is_some o ≡ false
none_some None e = refl
none_some (Some k) e = absurd cc

-- the two bytes at a place are no symbol
no_pair : (text : List ℕ) (at : ℕ) → pair_at text at ≡ None → at + 1 < length text → is_some (pair_of (get_or text at 0) (get_or text (at + 1) 0)) ≡ false
no_pair text at none low = by (nat_lt (at + 1) (length text)) refl where
  by : (t : Bool) → nat_lt (at + 1) (length text) ≡ t → is_some (pair_of (get_or text at 0) (get_or text (at + 1) 0)) ≡ false
  by true e = none_some (pair_of (get_or text at 0) (get_or text (at + 1) 0)) (rw e at none)
  by false e = absurd (omega (arith, ltb-false (at + 1) (length text) e))

pub one_stands : (text : List ℕ) (at : ℕ) (k : Kind) → is_past text at ≡ false → at < length text → IsOther (get_or text at 0) → pair_at text at ≡ None → single_of (get_or text at 0) ≡ Some k → Stands text at (at + 1) k
one_stands text at k early inside o none single = single_stands text at k early inside o single (no_pair text at none)
    (as_fixed k (between text at (at + 1)) (omega (arith, between_len text at (at + 1) (omega arith))))

pub none_stands : (text : List ℕ) (at : ℕ) → is_past text at ≡ false → at < length text → is_blank (get_or text at 0) ≡ false → IsOther (get_or text at 0) → pair_at text at ≡ None → single_of (get_or text at 0) ≡ None → Stands text at at kinds.Stray
none_stands text at early inside bare o none single = other_stands text at early inside (λ h. let k = sym h ∙ bare in absurd cc) o (none_some _ single) (no_pair text at none)

pub two_stands : (text : List ℕ) (at : ℕ) (k : Kind) → is_past text at ≡ false → at < length text → IsOther (get_or text at 0) → pair_at text at ≡ Some k → Stands text at (at + 2) k
two_stands text at k early inside o pair = by (nat_lt (at + 1) (length text)) refl where
  by : (t : Bool) → nat_lt (at + 1) (length text) ≡ t → Stands text at (at + 2) k
  by true e = let low = ltb-true (at + 1) (length text) e in
      pair_stands text at k early low o (sym (rw e refl) ∙ pair) (as_fixed k (between text at (at + 2)) (omega (arith, between_len text at (at + 2) (omega arith))))
  by false e = let h = rw e at pair in absurd cc

-- what begins with a quote is a text
quote_only : (text : List ℕ) (at other : ℕ) (k : Kind) → get_or text at 0 ≡ 39 → at < other → other ≤ length text → IsSpelled k (between text at other) → IsSpelled kinds.Text (between text at other)
quote_only text at other k quote low inside s =
    let p = parts text at other k low inside s in
    let h : kinds.Text ≡ k = classed k (39 ∷ p.bytes) (omega arith) (subst (λ x. IsSpelled k (x ∷ p.bytes)) quote p.is) in
    subst (λ j. IsSpelled j (between text at other)) (sym h) s

pub text_stands : (text : List ℕ) (at end : ℕ) → is_past text at ≡ false → get_or text at 0 ≡ 39 → IsTextTo text at end → Stands text at end kinds.Text
text_stands text at end early quote t = spelled early t.some t.inside t.is (λ other k later low s. let some = t.some in t.longest other later low (quote_only text at other k quote (omega arith) low s))

pub no_text_stands : (text : List ℕ) (at : ℕ) → is_past text at ≡ false → at < length text → get_or text at 0 ≡ 39 → BeginsNoText text at → Stands text at at kinds.Stray
no_text_stands text at early inside quote none = stray early inside (λ h. let k : is_blank 39 ≡ true = ap is_blank (sym quote) ∙ h in absurd cc)
    (λ to k low high s. none to low high (quote_only text at to k quote low high s))
