-- What the scanner finds is the longest token.
use Rattle.std.proofs.Common.{◌≡◌, ℕ, zero, suc, ◌+◌, ◌-◌, ◌<◌, ◌≤◌, Bool, true, false, if◌then◌else◌, List, [], ◌∷◌, length, take, drop, get_or, nat_eq, nat_lt, refl, sym, ◌∙◌, ap, subst, arith, length-take-le, length-drop}
use Rattle.std.specs.List.{list_all}
use borrow.Author.Tests.{ltb-true, ltb-false}
use Rattle.std.proofs.lemmas.Bool.{and_parts}
use Rattle.std.proofs.lemmas.Bool.Decides.{nat_tests}
use Rattle.std.proofs.lemmas.Grind.{common_steps}
use Rattle.mg_sql.specs.declared.token.Kind.{Kind}
use Rattle.mg_sql.specs.declared.token.Kind.TheVariants as kinds
use Rattle.mg_sql.specs.Spelling.{IsSpelled, IsWord, spelling, capitals, capital, is_digit, is_letter, is_word_byte, quoted}
use Rattle.mg_sql.specs.Lexing.{Stands, spelled, between, is_past}
use Rattle.mg_sql.specs.Scanning.{Runs}
use Rattle.mg_sql.proofs.Lexemes.{head_of, is_plain, plain_digit}

abbrev rest_of : List ℕ → List ℕ
rest_of [] = []
rest_of (b ∷ bs) = bs

-- a word of the grammar has word bytes alone
abbrev word_ok : List ℕ → Bool
word_ok [] = true
word_ok (c ∷ cs) = if is_letter c then list_all is_word_byte cs else true

pub letter_capital : (b : ℕ) → is_letter b ≡ true → is_letter (capital b) ≡ true
letter_capital b h = grind (arith, nat_tests)

word_capital : (b : ℕ) → is_word_byte (capital b) ≡ true → is_word_byte b ≡ true
word_capital b h = grind (arith, nat_tests)

letter_no_digit : (b : ℕ) → is_letter b ≡ true → is_digit b ≡ true → ⊥
letter_no_digit b h k = grind (arith, nat_tests)

words_capital : (bs : List ℕ) → list_all is_word_byte (capitals bs) ≡ true → list_all is_word_byte bs ≡ true
words_capital [] h = refl
words_capital (b ∷ bs) h = let p = and_parts (is_word_byte (capital b)) (list_all is_word_byte (capitals bs)) h in rw (word_capital b p.0, words_capital bs p.1) refl

fixed_words : (j : Kind) (b : ℕ) (bs : List ℕ) → is_letter b ≡ true → capitals (b ∷ bs) ≡ spelling j → word_ok (spelling j) ≡ true → list_all is_word_byte bs ≡ true
fixed_words j b bs letter e ok = let h : word_ok (capitals (b ∷ bs)) ≡ true = ap word_ok e ∙ ok in words_capital bs (rw (letter_capital b letter) at h)

-- what is spelled and begins with a letter has word bytes alone
pub word_all : (j : Kind) (b : ℕ) (bs : List ℕ) → is_letter b ≡ true → IsSpelled j (b ∷ bs) → list_all is_word_byte bs ≡ true
word_all kinds.Name b bs letter s = let w = s.0 in ap (λ xs. list_all is_word_byte (rest_of xs)) w.parts ∙ w.others
word_all kinds.Integer b bs letter s = absurd (letter_no_digit b letter (and_parts (is_digit b) (list_all is_digit bs) s.1).0)
word_all kinds.Text b bs letter s = let h : b ≡ 39 = ap head_of s.1 in let k : is_letter 39 ≡ true = rw h at letter in absurd cc
word_all kinds.End b bs letter s = absurd s
word_all kinds.Stray b bs letter s = absurd s
word_all j b bs letter s = fixed_words j b bs letter s refl

all_at : (test : ℕ → Bool) (bs : List ℕ) (i : ℕ) → list_all test bs ≡ true → i < length bs → test (get_or bs i 0) ≡ true
all_at test [] i all low = absurd (omega arith)
all_at test (b ∷ bs) zero all low = (and_parts (test b) (list_all test bs) all).0
all_at test (b ∷ bs) (suc i) all low = all_at test bs i (and_parts (test b) (list_all test bs) all).1 (omega arith)

-- a byte of what stands between two places
between_plain : (text : List ℕ) (at to i : ℕ) → at + i < to → to ≤ length text → get_or (between text at to) i 0 ≡ get_or text (at + i) 0
between_plain text at to i low high = grind (arith, common_steps)

pub between_at : (text : List ℕ) (at to i j : ℕ) → j ≡ at + i → j < to → to ≤ length text → get_or (between text at to) i 0 ≡ get_or text j 0
between_at text at to i j e low high = between_plain text at to i (omega arith) high ∙ ap (λ n. get_or text n 0) (sym e)

pub between_len : (text : List ℕ) (at to : ℕ) → to ≤ length text → length (between text at to) ≡ to - at
between_len text at to inside = omega (arith, length-take-le {A = ℕ}, length-drop {A = ℕ})

-- A run of bytes is the longest token, where all that is spelled and begins so passes the test.
longest : (test : ℕ → Bool) (text : List ℕ) (at end : ℕ) → at < end → Runs test text at end
    → ((k : Kind) (b : ℕ) (bs : List ℕ) → b ≡ get_or text at 0 → IsSpelled k (b ∷ bs) → list_all test bs ≡ true)
    → (other : ℕ) (k : Kind) → end < other → other ≤ length text → IsSpelled k (between text at other) → ⊥
longest test text at end some runs each other k later inside s = by (between text at other) refl where
  by : (bytes : List ℕ) → between text at other ≡ bytes → ⊥
  by [] e = let l = ap length e in omega (arith, between_len text at other inside)
  by (b ∷ bs) e =
      let first : b ≡ get_or text at 0 = ap (λ xs. get_or xs 0 0) (sym e) ∙ between_at text at other 0 at (omega arith) (omega arith) inside in
      let all = each k b bs first (subst (λ xs. IsSpelled k xs) e s) in
      let len : length (b ∷ bs) ≡ other - at = ap length (sym e) ∙ between_len text at other inside in
      let here = all_at test bs (end - at - 1) all (omega arith) in
      let there : get_or bs (end - at - 1) 0 ≡ get_or text end 0 = ap (λ xs. get_or xs (suc (end - at - 1)) 0) (sym e) ∙ between_at text at other (suc (end - at - 1)) end (omega arith) (omega arith) inside in
      let ended = runs.ended (omega arith) in
      absurd (let k = sym here ∙ ap test there ∙ ended in cc)

fixed_digits : (j : Kind) (b : ℕ) (bs : List ℕ) → is_digit b ≡ true → capitals (b ∷ bs) ≡ spelling j → is_plain (head_of (spelling j)) ≡ true → list_all is_digit bs ≡ true
fixed_digits j b bs digit e plain = let h : is_plain (capital b) ≡ true = ap (λ xs. is_plain (head_of xs)) e ∙ plain in let k = plain_digit b h in absurd cc

pub digit_all : (j : Kind) (b : ℕ) (bs : List ℕ) → is_digit b ≡ true → IsSpelled j (b ∷ bs) → list_all is_digit bs ≡ true
digit_all kinds.Name b bs digit s = let w = s.0 in absurd (letter_no_digit b (ap (λ xs. is_letter (head_of xs)) w.parts ∙ w.letter) digit)
digit_all kinds.Integer b bs digit s = (and_parts (is_digit b) (list_all is_digit bs) s.1).1
digit_all kinds.Text b bs digit s = let h : b ≡ 39 = ap head_of s.1 in let k : is_digit 39 ≡ true = rw h at digit in absurd cc
digit_all kinds.End b bs digit s = absurd s
digit_all kinds.Stray b bs digit s = absurd s
digit_all j b bs digit s = fixed_digits j b bs digit s refl

pub word_stands : (text : List ℕ) (at end : ℕ) (k : Kind) → is_past text at ≡ false → is_letter (get_or text at 0) ≡ true → at < end → Runs is_word_byte text at end → IsSpelled k (between text at end) → Stands text at end k
word_stands text at end k early letter some runs s = spelled early some runs.inside s
    (longest is_word_byte text at end some runs (λ j b bs first t. word_all j b bs (ap is_letter first ∙ letter) t))

list_all_by : (test : ℕ → Bool) (bs : List ℕ) → ((i : ℕ) → i < length bs → test (get_or bs i 0) ≡ true) → list_all test bs ≡ true
list_all_by test [] each = refl
list_all_by test (b ∷ bs) each = rw (each 0 (omega arith), list_all_by test bs (λ i low. each (suc i) (omega arith))) refl

pub digits_stand : (text : List ℕ) (at end : ℕ) → is_past text at ≡ false → is_digit (get_or text at 0) ≡ true → at < end → Runs is_digit text at end → Stands text at end kinds.Integer
digits_stand text at end early digit some runs = spelled early some runs.inside (
  omega (arith, between_len text at end runs.inside),
  list_all_by is_digit (between text at end) (λ i low. ap is_digit (between_at text at end i (at + i) refl (omega (arith, between_len text at end runs.inside)) runs.inside) ∙ runs.each (at + i) (omega arith) (omega (arith, between_len text at end runs.inside))),
)
    (longest is_digit text at end some runs (λ j b bs first t. digit_all j b bs (ap is_digit first ∙ digit) t))

-- a word
pub word_between : (text : List ℕ) (at end : ℕ) → is_letter (get_or text at 0) ≡ true → at < end → Runs is_word_byte text at end → IsWord (between text at end)
word_between text at end letter some runs = by (between text at end) refl where
  by : (bytes : List ℕ) → between text at end ≡ bytes → IsWord (between text at end)
  by [] e = let l = ap length e in absurd (omega (arith, between_len text at end runs.inside))
  by (b ∷ bs) e = record {
    first = b;
    rest = bs;
    parts = e;
    letter = ap is_letter (ap (λ xs. get_or xs 0 0) (sym e) ∙ between_at text at end 0 at (omega arith) some runs.inside) ∙ letter;
    others = list_all_by is_word_byte bs (λ i low.
        let len : length (b ∷ bs) ≡ end - at = ap length (sym e) ∙ between_len text at end runs.inside in
        ap is_word_byte (ap (λ xs. get_or xs (suc i) 0) (sym e) ∙ between_at text at end (suc i) (at + suc i) refl (omega arith) runs.inside) ∙ runs.each (at + suc i) (omega arith) (omega arith));
  }

letter_word : (b : ℕ) → is_letter b ≡ true → is_word_byte b ≡ true
letter_word b h = grind (arith, nat_tests)

digit_digit : (b : ℕ) → is_digit b ≡ true → is_digit b ≡ true
digit_digit b h = h

-- a run whose first byte passes has a byte
pub run_some : (test : ℕ → Bool) (text : List ℕ) (at end : ℕ) → at < length text → test (get_or text at 0) ≡ true → Runs test text at end → at < end
run_some test text at end inside first runs = by (nat_lt at end) refl where
  by : (t : Bool) → nat_lt at end ≡ t → at < end
  by true e = ltb-true at end e
  by false e = let same : end ≡ at = omega (arith, ltb-false at end e, runs.order) in
      let ended = runs.ended (omega arith) in let k = ap (λ n. test (get_or text n 0)) same in absurd (let l = sym ended ∙ k ∙ first in cc)

pub letter_runs : (text : List ℕ) (at end : ℕ) → at < length text → is_letter (get_or text at 0) ≡ true → Runs is_word_byte text at end → at < end
letter_runs text at end inside letter runs = run_some is_word_byte text at end inside (letter_word (get_or text at 0) letter) runs
