-- The key of a column's row, as it is put together.
use Rattle.std.proofs.Common.{◌≡◌, ◌∙◌, ap, ℕ, ◌+◌, ◌/◌, ◌%◌, ◌≤◌, arith, List, [], ◌∷◌, ◌++◌, length, append_assoc}
use Rattle.std.proofs.lemmas.List.{length_push}
use Rattle.mg_value.specs.declared.value.Value.TheVariants.{Text}
use Rattle.mg_model.specs.Catalog.{column_key}

-- the letter, the table, a point and two digits
module _ (empty first named pointed some all table : List ℕ) (tens ones place : ℕ) (none : empty ≡ [])
    (letter : first ≡ empty ++ 67 ∷ []) (name : named ≡ first ++ table) (point : pointed ≡ named ++ 46 ∷ [])
    (ten : some ≡ pointed ++ tens ∷ []) (one : all ≡ some ++ ones ∷ []) where
  begun : pointed ≡ (67 ∷ table) ++ 46 ∷ []
  begun = point ∙ ap (λ (xs : List ℕ). xs ++ 46 ∷ []) (name ∙ ap (λ (xs : List ℕ). xs ++ table)
      (letter ∙ ap (λ (xs : List ℕ). xs ++ 67 ∷ []) none))

  pub key_put : tens ≡ 48 + place / 10 → ones ≡ 48 + place % 10 → Text all ≡ column_key table place
  key_put is_tens is_ones = ap Text
      (one ∙ ap (λ (xs : List ℕ). xs ++ ones ∷ []) ten ∙ append_assoc pointed (tens ∷ []) (ones ∷ [])
      ∙ ap (λ (xs : List ℕ). xs ++ tens ∷ ones ∷ []) begun
      ∙ ap (λ (n : ℕ). ((67 ∷ table) ++ 46 ∷ []) ++ n ∷ ones ∷ []) is_tens
      ∙ ap (λ (n : ℕ). ((67 ∷ table) ++ 46 ∷ []) ++ (48 + place / 10) ∷ n ∷ []) is_ones)

  pub key_short : length table ≤ 31 → length all ≤ 40
  key_short few =
      let last = ap (length {A = ℕ}) one ∙ length_push some ones in
      let before = ap (length {A = ℕ}) ten ∙ length_push pointed tens in
      let front = ap (length {A = ℕ}) begun ∙ length_push (67 ∷ table) 46 in
      omega (arith, last, before, front, few)
