-- Texts in quotes.
use Rattle.std.proofs.Common.{◌≡◌, ◌≢◌, ℕ, zero, suc, ◌+◌, ◌-◌, ◌<◌, ◌≤◌, Bool, true, false, if◌then◌else◌, List, [], ◌∷◌, ◌++◌, length, take, drop, get_or, nat_eq, Option, Some, None, MatchOption, refl, sym, ◌∙◌, ap, subst, arith, append_assoc, eq-eqb}
use Rattle.std.specs.Prelude.{◌==◌}
use Rattle.std.proofs.lemmas.Bool.{eqb-true}
use Rattle.std.proofs.lemmas.List.{append_cancel_right, drop-drop}
use Rattle.std.proofs.lemmas.Grind.{common_steps}
use Rattle.std.proofs.Common.{length-append, nat_lt}
use Rattle.std.proofs.Math.Seq.{take-add}
use borrow.Author.Tests.{ltb-true, ltb-false}
use Rattle.mg_sql.proofs.Scanned.{between_at, between_len}
use Rattle.mg_sql.specs.declared.token.Kind.TheVariants as kinds
use Rattle.mg_sql.specs.Spelling.{IsSpelled, doubled, quoted}
use Rattle.mg_sql.specs.Lexing.{between}
use Rattle.mg_sql.specs.Scanning.{Closed, IsTextTo, BeginsNoText}

abbrev head_in : List ℕ → ℕ
head_in [] = 0
head_in (b ∷ bs) = b

abbrev tail_in : List ℕ → List ℕ
tail_in [] = []
tail_in (b ∷ bs) = bs

doubled_append : (v w : List ℕ) → doubled (v ++ w) ≡ doubled v ++ doubled w
doubled_append [] w = refl
doubled_append (b ∷ v) w = at (b == 39) refl (doubled_append v w) where
  at : (t : Bool) → (b == 39) ≡ t → doubled (v ++ w) ≡ doubled v ++ doubled w → doubled (b ∷ (v ++ w)) ≡ doubled (b ∷ v) ++ doubled w
  at true e more = rw (e, more) refl
  at false e more = rw (e, more) refl

plain_doubled : (b : ℕ) → (b == 39) ≡ false → doubled (b ∷ []) ≡ b ∷ []
plain_doubled b e = rw e refl

-- quotes in a text are doubled, so none is left over
odd : (w v : List ℕ) → doubled w ≡ doubled v ++ 39 ∷ [] → ⊥
odd [] [] e = absurd cc
odd [] (c ∷ v) e = at (c == 39) refl where
  at : (t : Bool) → (c == 39) ≡ t → ⊥
  at true h = let k = rw h at e in absurd cc
  at false h = let k = rw h at e in absurd cc
odd (b ∷ w) [] e = at (b == 39) refl where
  at : (t : Bool) → (b == 39) ≡ t → ⊥
  at true h = let k = rw h at e in let l = ap tail_in k in absurd cc
  at false h = let k = rw h at e in let l : b ≡ 39 = ap head_in k in let m = eq-eqb b 39 l in absurd cc
odd (b ∷ w) (c ∷ v) e = at (b == 39) (c == 39) refl refl (odd w v) where
  at : (t u : Bool) → (b == 39) ≡ t → (c == 39) ≡ u → (doubled w ≡ doubled v ++ 39 ∷ [] → ⊥) → ⊥
  at true true h l more = let k = rw (h, l) at e in more (ap (λ xs. tail_in (tail_in xs)) k)
  at true false h l more = let k = rw (h, l) at e in let m : c ≡ 39 = sym (ap head_in k) in let n = eq-eqb c 39 m in absurd cc
  at false true h l more = let k = rw (h, l) at e in let m : b ≡ 39 = ap head_in k in let n = eq-eqb b 39 m in absurd cc
  at false false h l more = let k = rw (h, l) at e in more (ap tail_in k)

-- behind a quote that is not doubled a text has ended
stuck : (w v : List ℕ) (c : ℕ) (rest : List ℕ) → c ≢ 39 → doubled w ++ 39 ∷ [] ≡ doubled v ++ 39 ∷ c ∷ rest → ⊥
stuck [] [] c rest no_quote e = let k = ap tail_in e in absurd cc
stuck [] (d ∷ v) c rest no_quote e = at (d == 39) refl where
  at : (t : Bool) → (d == 39) ≡ t → ⊥
  at true h = let k = ap tail_in (rw h at e) in absurd cc
  at false h = let k = rw h at e in let m : d ≡ 39 = sym (ap head_in k) in let n = eq-eqb d 39 m in absurd cc
stuck (b ∷ w) [] c rest no_quote e = at (b == 39) refl where
  at : (t : Bool) → (b == 39) ≡ t → ⊥
  at true h = let k = rw h at e in no_quote (sym (ap (λ xs. head_in (tail_in xs)) k))
  at false h = let k = rw h at e in let m : b ≡ 39 = ap head_in k in let n = eq-eqb b 39 m in absurd cc
stuck (b ∷ w) (d ∷ v) c rest no_quote e = at (b == 39) (d == 39) refl refl (stuck w v c rest no_quote) where
  at : (t u : Bool) → (b == 39) ≡ t → (d == 39) ≡ u → (doubled w ++ 39 ∷ [] ≡ doubled v ++ 39 ∷ c ∷ rest → ⊥) → ⊥
  at true true h l more = let k = rw (h, l) at e in more (ap (λ xs. tail_in (tail_in xs)) k)
  at true false h l more = let k = rw (h, l) at e in let m : d ≡ 39 = sym (ap head_in k) in let n = eq-eqb d 39 m in absurd cc
  at false true h l more = let k = rw (h, l) at e in let m : b ≡ 39 = ap head_in k in let n = eq-eqb b 39 m in absurd cc
  at false false h l more = let k = rw (h, l) at e in more (ap tail_in k)

-- the last of two lists
last_same : (xs ys : List ℕ) (a b : ℕ) → xs ++ a ∷ [] ≡ ys ++ b ∷ [] → a ≡ b
last_same [] [] a b e = ap head_in e
last_same [] (y ∷ []) a b e = let k = ap tail_in e in absurd cc
last_same [] (y ∷ z ∷ ys) a b e = let k = ap tail_in e in absurd cc
last_same (x ∷ []) [] a b e = let k = ap tail_in e in absurd cc
last_same (x ∷ z ∷ xs) [] a b e = let k = ap tail_in e in absurd cc
last_same (x ∷ xs) (y ∷ ys) a b e = last_same xs ys a b (ap tail_in e)

between_split : (text : List ℕ) (from mid to : ℕ) → from ≤ mid → mid ≤ to → to ≤ length text → between text from to ≡ between text from mid ++ between text mid to
between_split text from mid to a b c =
    let e : to - from ≡ (mid - from) + (to - mid) = omega arith in
    let f : from + (mid - from) ≡ mid = omega arith in
    ap (λ n. take n (drop from text)) e ∙ take-add (mid - from) (to - mid) (drop from text)
    ∙ ap (λ xs. take (mid - from) (drop from text) ++ take (to - mid) xs) (drop-drop (mid - from) from text ∙ ap (λ n. drop n text) f)

one_more : (xs : List ℕ) (c : ℕ) → length xs ≡ 1 → get_or xs 0 0 ≡ c → xs ≡ c ∷ []
one_more [] c len first = absurd (omega arith)
one_more (x ∷ []) c len first = ap (λ y. y ∷ []) first
one_more (x ∷ y ∷ xs) c len first = absurd (omega arith)

between_more : (text : List ℕ) (from at : ℕ) → from ≤ at → at < length text → between text from (at + 1) ≡ between text from at ++ get_or text at 0 ∷ []
between_more text from at order inside = between_split text from at (at + 1) order (omega arith) (omega arith)
    ∙ ap (λ xs. between text from at ++ xs) (one_more (between text at (at + 1)) (get_or text at 0) (omega (arith, between_len text at (at + 1) (omega arith))) (between_at text at (at + 1) 0 at (omega arith) (omega arith) (omega arith)))

-- what is known while a text is read
pub record SoFar (text : List ℕ) (from at : ℕ) (closed : Option ℕ) : Type 0 where
  pub value : List ℕ
  pub is : between text from at ≡ 39 ∷ doubled value
  pub order : from < at
  pub inside : at ≤ length text
  pub ends : Closed text from at closed

pub begins : (text : List ℕ) (from : ℕ) → from < length text → get_or text from 0 ≡ 39 → SoFar text from (from + 1) None
begins text from inside quote = record {
  value = [];
  is = one_more (between text from (from + 1)) 39 (omega (arith, between_len text from (from + 1) (omega arith))) (between_at text from (from + 1) 0 from (omega arith) (omega arith) (omega arith) ∙ quote);
  order = omega arith;
  inside = omega arith;
  ends = λ to low high s. let l = ap length s.1 in let m = length_quoted s.0 in omega (arith, between_len text from to (omega arith));
} where
  length_quoted : (v : List ℕ) → 2 ≤ length (quoted v)
  length_quoted v = omega (arith, length-append {A = ℕ})

-- no text ends behind a byte that is no quote
plain_last : (text : List ℕ) (from at : ℕ) (v : List ℕ) → between text from at ≡ 39 ∷ doubled v → from < at → at < length text → (get_or text at 0 ≡ 39 → ⊥) → IsSpelled kinds.Text (between text from (at + 1)) → ⊥
plain_last text from at v is order inside no_quote s =
    no_quote (sym (last_same (doubled s.0) (doubled v) 39 (get_or text at 0) (ap tail_in (sym s.1 ∙ between_more text from at (omega arith) inside ∙ ap (λ xs. xs ++ get_or text at 0 ∷ []) is))))

closed_on : (text : List ℕ) (from at next : ℕ) (closed : Option ℕ) → at ≤ next → Closed text from at closed → ((to : ℕ) → at < to → to ≤ next → IsSpelled kinds.Text (between text from to) → ⊥) → Closed text from next closed
closed_on text from at next None le c none = λ to low high s. by (nat_lt at to) to refl low high s where
  by : (t : Bool) → (to : ℕ) → nat_lt at to ≡ t → from < to → to ≤ next → IsSpelled kinds.Text (between text from to) → ⊥
  by true to e low high s = none to (ltb-true at to e) high s
  by false to e low high s = c to low (omega (arith, ltb-false at to e)) s
closed_on text from at next (Some end) le c none = (c.0, omega (arith, c.1), c.2, λ to low high s. by (nat_lt at to) to refl low high s) where
  by : (t : Bool) → (to : ℕ) → nat_lt at to ≡ t → end < to → to ≤ next → IsSpelled kinds.Text (between text from to) → ⊥
  by true to e low high s = none to (ltb-true at to e) high s
  by false to e low high s = c.3 to low (omega (arith, ltb-false at to e)) s

pub plain_step : (text : List ℕ) (from at : ℕ) (closed : Option ℕ) → SoFar text from at closed → at < length text → (get_or text at 0 ≡ 39 → ⊥) → SoFar text from (at + 1) closed
plain_step text from at closed f inside no_quote = record {
  value = f.value ++ get_or text at 0 ∷ [];
  is = between_more text from at (omega (arith, f.order)) inside ∙ ap (λ xs. xs ++ get_or text at 0 ∷ []) f.is
      ∙ ap (λ xs. 39 ∷ xs) (sym (doubled_append f.value (get_or text at 0 ∷ []) ∙ ap (λ xs. doubled f.value ++ xs) (plain_doubled (get_or text at 0) (false_of (get_or text at 0 == 39) refl))));
  order = omega (arith, f.order);
  inside = omega arith;
  ends = closed_on text from at (at + 1) closed (omega arith) f.ends (λ to low high s. plain_last text from at f.value f.is f.order inside no_quote
      (subst (λ n. IsSpelled kinds.Text (between text from n)) (omega arith) s));
} where
  false_of : (t : Bool) → (get_or text at 0 == 39) ≡ t → (get_or text at 0 == 39) ≡ false
  false_of true e = absurd (no_quote (eqb-true (get_or text at 0) 39 e))
  false_of false e = e

-- a text ends behind a quote
quote_ends : (text : List ℕ) (from at : ℕ) (v : List ℕ) → between text from at ≡ 39 ∷ doubled v → from < at → at < length text → get_or text at 0 ≡ 39 → between text from (at + 1) ≡ quoted v
quote_ends text from at v is order inside quote = between_more text from at (omega arith) inside ∙ ap (λ xs. xs ++ get_or text at 0 ∷ []) is ∙ ap (λ b. 39 ∷ (doubled v ++ b ∷ [])) quote

pub pair_step : (text : List ℕ) (from at : ℕ) (closed : Option ℕ) → SoFar text from at closed → at + 1 < length text → get_or text at 0 ≡ 39 → get_or text (at + 1) 0 ≡ 39 → SoFar text from (at + 2) (Some (at + 1))
pair_step text from at closed f inside quote again =
    let both : between text from (at + 2) ≡ 39 ∷ ((doubled f.value ++ 39 ∷ []) ++ 39 ∷ []) =
    ap (λ n. between text from n) (omega arith) ∙ between_more text from (at + 1) (omega (arith, f.order)) inside
    ∙ ap (λ xs. xs ++ get_or text (at + 1) 0 ∷ []) (quote_ends text from at f.value f.is f.order (omega arith) quote)
    ∙ ap (λ b. 39 ∷ ((doubled f.value ++ 39 ∷ []) ++ b ∷ [])) again in record {
      value = f.value ++ 39 ∷ [];
      is = both ∙ ap (λ xs. 39 ∷ xs) (append_assoc (doubled f.value) (39 ∷ []) (39 ∷ []) ∙ sym (doubled_append f.value (39 ∷ [])));
      order = omega (arith, f.order);
      inside = omega arith;
      ends = (
        omega (arith, f.order),
        omega arith,
        (f.value, quote_ends text from at f.value f.is f.order (omega arith) quote),
        λ to low high s. odd s.0 f.value (append_cancel_right (doubled s.0) (doubled f.value ++ 39 ∷ []) (39 ∷ [])
            (ap tail_in (sym s.1 ∙ ap (λ n. between text from n) (omega arith) ∙ both))),
      );
    }

pub ends_here : (text : List ℕ) (from at : ℕ) (closed : Option ℕ) → SoFar text from at closed → at < length text → get_or text at 0 ≡ 39 → (at + 1 < length text → get_or text (at + 1) 0 ≡ 39 → ⊥) → IsTextTo text from (at + 1)
ends_here text from at closed f inside quote single = record {
  some = omega (arith, f.order);
  inside = omega arith;
  is = (f.value, quote_ends text from at f.value f.is f.order inside quote);
  longest = λ other low high s.
      let rest : between text (at + 1) other ≡ get_or text (at + 1) 0 ∷ between text (at + 2) other =
      between_split text (at + 1) (at + 2) other (omega arith) (omega arith) high
      ∙ ap (λ xs. xs ++ between text (at + 2) other) (one_more (between text (at + 1) (at + 2)) (get_or text (at + 1) 0) (omega (arith, between_len text (at + 1) (at + 2) (omega arith)))
      (between_at text (at + 1) (at + 2) 0 (at + 1) (omega arith) (omega arith) (omega arith))) in
      stuck s.0 f.value (get_or text (at + 1) 0) (between text (at + 2) other) (single (omega arith))
      (ap tail_in (sym s.1 ∙ between_split text from (at + 1) other (omega (arith, f.order)) (omega arith) high
      ∙ ap (λ xs. xs ++ between text (at + 1) other) (quote_ends text from at f.value f.is f.order inside quote)
      ∙ ap (λ xs. (39 ∷ (doubled f.value ++ 39 ∷ [])) ++ xs) rest)
      ∙ append_assoc (doubled f.value) (39 ∷ []) (get_or text (at + 1) 0 ∷ between text (at + 2) other));
}

pub at_end : (text : List ℕ) (from at : ℕ) (closed : Option ℕ) → SoFar text from at closed → length text ≤ at → MatchOption closed (BeginsNoText text from) (λ end. IsTextTo text from end)
at_end text from at None f high = λ to low inside s. f.ends to low (omega arith) s
at_end text from at (Some end) f high = let c = f.ends in record { some = c.0; inside = omega (arith, c.1, f.inside); is = c.2; longest = λ other low inside s. c.3 other low (omega arith) s }
