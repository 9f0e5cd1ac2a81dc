-- The text of a column's key tells its table.
use Rattle.std.proofs.Common.{◌≡◌, ◌∙◌, ◌++◌, ◌∷◌, ◌-◌, ◌+◌, ◌/◌, ◌%◌, ℕ, List, [], ap, append_assoc, arith, length, refl, take}
use Rattle.std.proofs.lemmas.List.{length-append, take-append-le}
use Rattle.mg_grown_catalog_laws.specs.Grown.{columns_table}
use Rattle.mg_model.specs.Catalog.{two_digits}

-- what stands before three bytes
three_less : (name : List ℕ) (x y z : ℕ)
    → take (length ((name ++ x ∷ []) ++ y ∷ z ∷ []) - 3) ((name ++ x ∷ []) ++ y ∷ z ∷ []) ≡ name
three_less name x y z = ap (λ (n : ℕ). take (n - 3) ((name ++ x ∷ []) ++ y ∷ z ∷ [])) long
    ∙ (ap (λ (xs : List ℕ). take (length name + 3 - 3) xs) (append_assoc name (x ∷ []) (y ∷ z ∷ []))
    ∙ (ap (λ (n : ℕ). take n (name ++ x ∷ y ∷ z ∷ [])) (omega arith)
    ∙ (take-append-le (length name) name (x ∷ y ∷ z ∷ []) (omega arith) ∙ all name)))
  where
    long : length ((name ++ x ∷ []) ++ y ∷ z ∷ []) ≡ length name + 3
    long = length-append (name ++ x ∷ []) (y ∷ z ∷ []) ∙ (ap (λ (n : ℕ). n + 2) (length-append name (x ∷ [])) ∙ omega arith)

    all : (xs : List ℕ) → take (length xs) xs ≡ xs
    all [] = refl
    all (x ∷ xs) = ap (λ (ys : List ℕ). x ∷ ys) (all xs)

pub column_table : (name : List ℕ) (place : ℕ) → columns_table ((name ++ 46 ∷ []) ++ two_digits place) ≡ name
column_table name place = three_less name 46 (48 + place / 10) (48 + place % 10)
