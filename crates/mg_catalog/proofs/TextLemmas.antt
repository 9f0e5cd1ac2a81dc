-- What follows the letter in the key of a column's row: a table, a point and two digits.
use Rattle.std.proofs.Common.{◌≡◌, ◌∙◌, ap, sym, refl, ℕ, ◌+◌, ◌-◌, ◌<◌, ◌≤◌, arith, List, [], ◌∷◌, ◌++◌, length, take, drop, get_or, append_assoc}
use Rattle.std.proofs.lemmas.List.{drop_at, length-append, length-drop, take-append-drop}
use Rattle.mg_model.specs.Catalog.{two_digits}
use Rattle.mg_catalog.specs.RowRules.{column_text}

joined : (table : List ℕ) (place : ℕ) → column_text table place ≡ table ++ 46 ∷ two_digits place
joined table place = append_assoc table (46 ∷ []) (two_digits place)

long : (table : List ℕ) (place : ℕ) → length (column_text table place) ≡ length table + 3
long table place = ap (length {A = ℕ}) (joined table place) ∙ length-append table (46 ∷ two_digits place)

pub too_short : (text table : List ℕ) (place : ℕ) → length text < 3 → text ≡ column_text table place → ⊥
too_short text table place short is =
    let same = ap (length {A = ℕ}) is ∙ long table place in absurd (omega (arith, same, short))

-- a list of three
three : (xs : List ℕ) → length xs ≡ 3 → xs ≡ get_or xs 0 0 ∷ get_or xs 1 0 ∷ get_or xs 2 0 ∷ []
three [] is = absurd (omega arith)
three (a ∷ []) is = absurd (omega arith)
three (a ∷ b ∷ []) is = absurd (omega arith)
three (a ∷ b ∷ c ∷ []) is = refl
three (a ∷ b ∷ c ∷ d ∷ xs) is = absurd (omega arith)

-- the last three bytes are cut off
module _ (text front tail : List ℕ) (some : 3 ≤ length text) (fronts : front ≡ take (length text - 3) text)
    (backs : tail ≡ drop (length text - 3) text) where
  pub tail_is : (table : List ℕ) (place : ℕ) → text ≡ column_text table place → tail ≡ 46 ∷ two_digits place
  tail_is table place is =
      let same = ap (length {A = ℕ}) is ∙ long table place in
      let cut : length table ≡ length text - 3 = omega (arith, same) in
      backs ∙ ap (λ (xs : List ℕ). drop (length text - 3) xs) (is ∙ joined table place)
      ∙ drop_at table (46 ∷ two_digits place) (length text - 3) cut

  pub text_is : (place : ℕ) → get_or tail 0 0 ≡ 46 → get_or tail 1 0 ∷ get_or tail 2 0 ∷ [] ≡ two_digits place
      → text ≡ column_text front place
  text_is place point digits =
      let cut = ap (length {A = ℕ}) backs ∙ length-drop (length text - 3) text in
      let all : length tail ≡ 3 = omega (arith, cut, some) in
      sym (take-append-drop (length text - 3) text)
      ∙ ap (λ (xs : List ℕ). xs ++ drop (length text - 3) text) (sym fronts)
      ∙ ap (λ (xs : List ℕ). front ++ xs) (sym backs ∙ three tail all)
      ∙ ap (λ (n : ℕ). front ++ n ∷ get_or tail 1 0 ∷ get_or tail 2 0 ∷ []) point
      ∙ ap (λ (xs : List ℕ). front ++ 46 ∷ xs) digits ∙ sym (joined front place)
