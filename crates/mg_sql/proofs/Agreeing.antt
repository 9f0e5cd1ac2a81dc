-- The tokens of a text are one: two lists of them agree as far as the shorter goes.
use Rattle.std.proofs.Common.{◌≡◌, ◌≢◌, ℕ, zero, suc, ◌<◌, ◌≤◌, Bool, true, false, List, [], ◌∷◌, ◌++◌, length, get_or, nat_lt, refl, sym, ◌∙◌, ap, subst, arith}
use Rattle.std.specs.Prelude.{◌&&◌, nat_le}
use Rattle.std.proofs.lemmas.Bool.{and_parts}
use Rattle.std.proofs.lemmas.Bool.Decides.{nat_tests}
use Rattle.std.specs.List.{list_all}
use borrow.Author.Tests.{ltb-true, ltb-false}
use Rattle.mg_sql.specs.declared.token.Kind.{Kind}
use Rattle.mg_sql.specs.declared.token.Kind.TheVariants as kinds
use Rattle.mg_sql.specs.Tokens.{Token, token}
use Rattle.mg_sql.specs.Spelling.{IsSpelled, spelling, capitals, capital, is_blank, is_letter, is_digit}
use Rattle.mg_sql.specs.Lexing.{Stands, spelled, ended, past, stray, Lexes, none, one, AreBlank, between, is_past}
use Rattle.mg_sql.proofs.Lexemes.{stands_one, head_of, not_both}
use Rattle.mg_sql.proofs.Symbols.{parts}

blank_capital : (b : ℕ) → is_blank b ≡ true → is_blank (capital b) ≡ true
blank_capital b h = grind (arith, nat_tests)

blank_letter : (b : ℕ) → is_blank b ≡ true → is_letter b ≡ true → ⊥
blank_letter b h k = grind (arith, nat_tests)

blank_digit : (b : ℕ) → is_blank b ≡ true → is_digit b ≡ true → ⊥
blank_digit b h k = grind (arith, nat_tests)

fixed_blank : (j : Kind) (b : ℕ) (bs : List ℕ) → is_blank b ≡ true → capitals (b ∷ bs) ≡ spelling j → is_blank (head_of (spelling j)) ≡ false → ⊥
fixed_blank j b bs h e solid = let k : is_blank (capital b) ≡ false = ap (λ xs. is_blank (head_of xs)) e ∙ solid in let l = sym (blank_capital b h) ∙ k in absurd cc

-- no token begins with a blank
blank_spelled : (j : Kind) (b : ℕ) (bs : List ℕ) → is_blank b ≡ true → IsSpelled j (b ∷ bs) → ⊥
blank_spelled kinds.Name b bs h s = let w = s.0 in blank_letter b h (ap (λ xs. is_letter (head_of xs)) w.parts ∙ w.letter)
blank_spelled kinds.Integer b bs h s = blank_digit b h (and_parts (is_digit b) (list_all is_digit bs) s.1).0
blank_spelled kinds.Text b bs h s = let e : b ≡ 39 = ap head_of s.1 in let k : is_blank 39 ≡ true = ap is_blank (sym e) ∙ h in absurd cc
blank_spelled kinds.End b bs h s = absurd s
blank_spelled kinds.Stray b bs h s = absurd s
blank_spelled j b bs h s = fixed_blank j b bs h s refl

past_on : (text : List ℕ) (a b : ℕ) → is_past text b ≡ true → b ≤ a → is_past text a ≡ true
past_on text a b h low = grind (arith, nat_tests)

-- a token does not stand at a blank, unless no token is read there
bare : {text : List ℕ} {at to : ℕ} {k : Kind} → Stands text at to k → is_past text at ≡ false → at < length text → is_blank (get_or text at 0) ≡ true → ⊥
bare {text = text} {at = at} (spelled {to = to} {kind = k} p a b c d) early inside h = let s = parts text at to k a b c in blank_spelled k (get_or text at 0) s.bytes h s.is
bare (ended p i) early inside h = absurd (omega arith)
bare (past p) early inside h = absurd (not_both early p)
bare (stray p a b c) early inside h = b h

early_of : {text : List ℕ} {at to : ℕ} {k : Kind} → Stands text at to k → k ≢ kinds.Stray → is_past text at ≡ false
early_of (spelled p a b c d) other = p
early_of (ended p i) other = p
early_of (past p) other = absurd (other refl)
early_of (stray p a b c) other = p

-- behind the same blanks it stands at the same place
place_one : {text : List ℕ} {p a b e f : ℕ} {j k : Kind} → AreBlank text p a → AreBlank text p b → Stands text a e j → Stands text b f k → j ≢ kinds.Stray → a ≡ b
place_one {text = text} {a = a} {b = b} x y s t other = by (nat_lt a b) (nat_lt b a) refl refl where
  by : (m n : Bool) → nat_lt a b ≡ m → nat_lt b a ≡ n → a ≡ b
  by true n h i = let low = ltb-true a b h in absurd (bare s (early_of s other) (omega (arith, y.inside)) (y.each a x.order low))
  by false true h i = let low = ltb-true b a i in absurd (by_past (is_past text b) refl low) where
    by_past : (q : Bool) → is_past text b ≡ q → b < a → ⊥
    by_past true q low = not_both (early_of s other) (past_on text a b q (omega arith))
    by_past false q low = bare t q (omega (arith, x.inside)) (x.each b y.order low)
  by false false h i = omega (arith, ltb-false a b h, ltb-false b a i)

-- it ends at the same place
end_one : {text : List ℕ} {at e f : ℕ} {j k : Kind} → Stands text at e j → Stands text at f k → e ≡ f
end_one {text = text} {at = at} {j = j} {k = k} (spelled {to = e} p a b c d) (spelled {to = f} p' a' b' c' d') = by (nat_lt e f) (nat_lt f e) refl refl where
  by : (x y : Bool) → nat_lt e f ≡ x → nat_lt f e ≡ y → e ≡ f
  by true y i l = absurd (d f k (ltb-true e f i) b' c')
  by false true i l = absurd (d' e j (ltb-true f e l) b c)
  by false false i l = omega (arith, ltb-false e f i, ltb-false f e l)
end_one (spelled p a b c d) (ended q e) = absurd (omega arith)
end_one (spelled p a b c d) (past q) = absurd (not_both p q)
end_one {at = at} (spelled {to = e} {kind = j} p a b c d) (stray q f g h) = absurd (h e j a b c)
end_one (ended p e) (spelled q a b c d) = absurd (omega arith)
end_one (past p) (spelled q a b c d) = absurd (not_both q p)
end_one (stray p f g h) (spelled {to = e} {kind = j} q a b c d) = absurd (h e j a b c)
end_one (ended p e) (ended q f) = refl
end_one (ended p e) (past q) = refl
end_one (ended p e) (stray q f g h) = refl
end_one (past p) (ended q e) = refl
end_one (past p) (past q) = refl
end_one (past p) (stray q f g h) = refl
end_one (stray p f g h) (ended q e) = refl
end_one (stray p f g h) (past q) = refl
end_one (stray p f g h) (stray q i j k) = refl

-- each of the tokens is one that can be read
abbrev pub Read : List Token → Type 0
Read [] = Unit {0}
Read (t ∷ ts) = (t.kind ≢ kinds.Stray) × Read ts

pub data Agree (ts us : List Token) : Type 0 where
  shorter : (more : List Token) → us ≡ ts ++ more → Agree ts us
  longer : (next : Token) (more : List Token) → ts ≡ us ++ next ∷ more → Agree ts us

agree_on : {ts us : List Token} (t u : Token) → t ≡ u → Agree ts us → Agree (t ∷ ts) (u ∷ us)
agree_on t u e (shorter more h) = shorter more (λ i. sym e i ∷ h i)
agree_on t u e (longer next more h) = longer next more (λ i. e i ∷ h i)

pub agree : {text : List ℕ} (p a b : ℕ) {x y : ℕ} {ts us : List Token} → AreBlank text p a → AreBlank text p b → Lexes text a ts x → Lexes text b us y → Read ts → Agree ts us
agree p a b {us = us} m n none l read = shorter us refl
agree p a b m n (one {kind = j} {more = more} s c l) none read = longer _ more refl
agree {text = text} p a b m n (one {behind = e} {next = next} {kind = j} s c l) (one {behind = f} {next = next'} {kind = k} t d r) read =
    let at = place_one m n s t read.0 in
    let t' = subst (λ q. Stands text q f k) (sym at) t in
    let kind = stands_one s t' in let end = end_one s t' in
    agree_on _ _ (λ i. token (kind i) (between text (at i) (end i)))
    (agree e next next' c (subst (λ q. AreBlank text q next') (sym end) d) l r read.1)
