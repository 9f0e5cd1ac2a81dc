-- One token stands at a place.
use Rattle.std.proofs.Common.{◌≡◌, ◌≢◌, ℕ, zero, suc, ◌<◌, ◌≤◌, ◌-◌, Bool, true, false, if◌then◌else◌, nat_eq, List, [], ◌∷◌, ◌++◌, length, map, Option, Some, None, refl, sym, ◌∙◌, ap, subst, arith, nat_lt, take, drop, length-take-le, length-drop}
use Rattle.std.proofs.lemmas.Bool.{eqb-true}
use Rattle.std.proofs.lemmas.Bool.{and_parts}
use Rattle.std.specs.List.{list_all}
use Rattle.std.proofs.lemmas.Bool.Decides.{nat_tests}
use borrow.Author.Tests.{ltb-true, ltb-false}
use Rattle.std.specs.Prelude.{IsTrue, codes}
use Rattle.mg_sql.specs.declared.token.Kind.{Kind}
use Rattle.mg_sql.specs.declared.token.Kind.TheVariants as kinds
use Rattle.mg_sql.specs.Spelling.{IsSpelled, IsWord, spelling, capitals, capital, is_digit, is_letter, quoted}
use Rattle.mg_sql.specs.Lexing.{Stands, spelled, ended, past, stray, between, BeginsNone}

-- which word or symbol is spelled so: found by a walk over the kinds
abbrev pub same_bytes : List ℕ → List ℕ → Bool
same_bytes [] [] = true
same_bytes [] (c ∷ cs) = false
same_bytes (b ∷ bs) [] = false
same_bytes (b ∷ bs) (c ∷ cs) = if nat_eq b c then same_bytes bs cs else false

abbrev pub found : List ℕ → List Kind → Option Kind
found bytes [] = None
found bytes (k ∷ ks) = if same_bytes bytes (spelling k) then Some k else found bytes ks

abbrev pub words : List Kind
words = kinds.Set ∷ kinds.Transaction ∷ kinds.Read ∷ kinds.Write ∷ kinds.Only ∷ kinds.Wait ∷ kinds.No ∷ kinds.Isolation ∷ kinds.Level ∷ kinds.Snapshot ∷ kinds.Committed ∷ kinds.Commit ∷ kinds.Work ∷ kinds.Rollback ∷ kinds.To ∷ kinds.Savepoint ∷ kinds.Create ∷ kinds.Table ∷ kinds.Bigint ∷ kinds.Varchar ∷ kinds.Not ∷ kinds.Null ∷ kinds.Primary ∷ kinds.Key ∷ kinds.Index ∷ kinds.On ∷ kinds.Insert ∷ kinds.Into ∷ kinds.Values ∷ kinds.Update ∷ kinds.Where ∷ kinds.Delete ∷ kinds.From ∷ kinds.Select ∷ kinds.Order ∷ kinds.By ∷ kinds.Asc ∷ kinds.Desc ∷ kinds.Count ∷ kinds.Sum ∷ kinds.Or ∷ kinds.And ∷ kinds.Is ∷ kinds.Open ∷ kinds.Close ∷ kinds.Comma ∷ kinds.Semicolon ∷ kinds.Star ∷ kinds.Plus ∷ kinds.Minus ∷ kinds.Slash ∷ kinds.Equal ∷ kinds.Unequal ∷ kinds.Less ∷ kinds.AtMost ∷ kinds.Greater ∷ kinds.AtLeast ∷ []

abbrev pub by_word : Option Kind → Kind
by_word None = kinds.Name
by_word (Some k) = k

-- the kind of token that bytes spell, if they spell one
abbrev pub kind_by : List ℕ → Kind
kind_by [] = kinds.End
kind_by (b ∷ bs) = if is_digit b then kinds.Integer else (if nat_eq b 39 then kinds.Text else by_word (found (capitals (b ∷ bs)) words))

pub same_is : (a b : List ℕ) → same_bytes a b ≡ true → a ≡ b
same_is [] [] h = refl
same_is [] (c ∷ cs) h = absurd cc
same_is (b ∷ bs) [] h = absurd cc
same_is (b ∷ bs) (c ∷ cs) h = at (nat_eq b c) refl (same_is bs cs) where
  at : (t : Bool) → nat_eq b c ≡ t → (same_bytes bs cs ≡ true → bs ≡ cs) → b ∷ bs ≡ c ∷ cs
  at true e more = let k = rw e at h in λ i. eqb-true b c e i ∷ more k i
  at false e more = let k = rw e at h in absurd cc

pub found_none : (bytes : List ℕ) (ks : List Kind) → ((k : Kind) → bytes ≡ spelling k → ⊥) → found bytes ks ≡ None
found_none bytes [] h = refl
found_none bytes (k ∷ ks) h = at (same_bytes bytes (spelling k)) refl (found_none bytes ks h) where
  at : (t : Bool) → same_bytes bytes (spelling k) ≡ t → found bytes ks ≡ None → found bytes (k ∷ ks) ≡ None
  at true e more = absurd (h k (same_is bytes (spelling k) e))
  at false e more = rw e more

-- no digit and no quote
abbrev pub is_plain : ℕ → Bool
is_plain c = if is_digit c then false else (if nat_eq c 39 then false else true)

abbrev pub head_of : List ℕ → ℕ
head_of [] = 0
head_of (b ∷ bs) = b

pub plain_digit : (b : ℕ) → is_plain (capital b) ≡ true → is_digit b ≡ false
plain_digit b h = grind (arith, nat_tests)

plain_quote : (b : ℕ) → is_plain (capital b) ≡ true → nat_eq b 39 ≡ false
plain_quote b h = grind (arith, nat_tests)

letter_plain : (b : ℕ) → is_letter b ≡ true → is_plain (capital b) ≡ true
letter_plain b h = grind (arith, nat_tests)

fixed : (j : Kind) (bytes : List ℕ) → 0 < length bytes → capitals bytes ≡ spelling j → is_plain (head_of (spelling j)) ≡ true → found (spelling j) words ≡ Some j → kind_by bytes ≡ j
fixed j [] some e plain is = absurd (omega arith)
fixed j (b ∷ bs) some e plain is =
    let p : is_plain (capital b) ≡ true = ap (λ xs. is_plain (head_of xs)) e ∙ plain in
    rw (plain_digit b p, plain_quote b p) (ap (λ xs. by_word (found xs words)) e ∙ ap by_word is)

word_class : (b : ℕ) (bs : List ℕ) → is_letter b ≡ true → ((k : Kind) → capitals (b ∷ bs) ≡ spelling k → ⊥) → kind_by (b ∷ bs) ≡ kinds.Name
word_class b bs letter free = rw (plain_digit b (letter_plain b letter), plain_quote b (letter_plain b letter), found_none (capitals (b ∷ bs)) words free) refl

digit_class : (bytes : List ℕ) → 0 < length bytes → list_all is_digit bytes ≡ true → kind_by bytes ≡ kinds.Integer
digit_class [] some all = absurd (omega arith)
digit_class (b ∷ bs) some all = rw (and_parts (is_digit b) (list_all is_digit bs) all).0 refl

pub classed : (j : Kind) (bytes : List ℕ) → 0 < length bytes → IsSpelled j bytes → kind_by bytes ≡ j
classed kinds.Name bytes some s = let w = s.0 in ap kind_by w.parts ∙ word_class w.first w.rest w.letter (λ k e. s.1 k (ap capitals w.parts ∙ e))
classed kinds.Integer bytes some s = digit_class bytes some s.1
classed kinds.Text bytes some s = ap kind_by s.1
classed kinds.End bytes some s = absurd s
classed kinds.Stray bytes some s = absurd s
classed j bytes some s = fixed j bytes some s refl refl

pub not_both : {b : Bool} → b ≡ false → b ≡ true → ⊥
not_both p q = let h = sym p ∙ q in cc

some_between : (text : List ℕ) (at to : ℕ) → at < to → to ≤ length text → 0 < length (between text at to)
some_between text at to low high = omega (arith, length-take-le {A = ℕ}, length-drop {A = ℕ})

pub stands_one : {text : List ℕ} {at e f : ℕ} {j k : Kind} → Stands text at e j → Stands text at f k → j ≡ k
stands_one {text = text} {at = at} {j = j} {k = k} (spelled {to = e} p a b c d) (spelled {to = f} p' a' b' c' d') = by_order (nat_lt e f) (nat_lt f e) refl refl where
  same : e ≡ f → j ≡ k
  same h = sym (classed j (between text at e) (some_between text at e a b) c) ∙ ap (λ to. kind_by (between text at to)) h ∙ classed k (between text at f) (some_between text at f a' b') c'

  by_order : (x y : Bool) → nat_lt e f ≡ x → nat_lt f e ≡ y → j ≡ k
  by_order true y i l = absurd (d f k (ltb-true e f i) b' c')
  by_order false true i l = absurd (d' e j (ltb-true f e l) b c)
  by_order false false i l = same (omega (arith, ltb-false e f i, ltb-false f e l))
stands_one (spelled p a b c d) (ended q e) = absurd (omega arith)
stands_one (spelled p a b c d) (past q) = absurd (not_both p q)
stands_one {at = at} (spelled {to = e} {kind = j} p a b c d) (stray q f g h) = absurd (h e j a b c)
stands_one (ended p e) (spelled q a b c d) = absurd (omega arith)
stands_one (ended p e) (ended q f) = refl
stands_one (ended p e) (past q) = absurd (not_both p q)
stands_one (ended p e) (stray q f g h) = absurd (omega arith)
stands_one (past p) (spelled q a b c d) = absurd (not_both q p)
stands_one (past p) (ended q e) = absurd (not_both q p)
stands_one (past p) (past q) = refl
stands_one (past p) (stray q f g h) = refl
stands_one (stray p f g h) (spelled {to = e} {kind = j} q a b c d) = absurd (h e j a b c)
stands_one (stray p f g h) (ended q e) = absurd (omega arith)
stands_one (stray p f g h) (past q) = refl
stands_one (stray p f g h) (stray q i j k) = refl
