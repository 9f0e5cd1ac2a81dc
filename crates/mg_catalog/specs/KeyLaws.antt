-- Laws of keys: when two are the same, and what the first row of a key is.
use Rattle.std.proofs.Common.{◌≡◌, ◌≢◌, ◌⊎◌, inl, inr, ◌∙◌, ap, sym, subst, refl, ℕ, ◌+◌, ◌/◌, ◌%◌, Bool, true, false, List, [], ◌∷◌, ◌++◌, length, append_assoc, arith, Some}
use Rattle.std.specs.Prelude.{nat_eq, ◌==◌}
use Rattle.std.specs.Ordering.{is_eq}
use Rattle.std.specs.declared.cmp.Ordering.{Ordering}
use Rattle.std.specs.declared.cmp.Ordering.TheVariants.{Less, Equal, Greater}
use Rattle.std.specs.Cmp.Lexicographic.{bytes_decides, pointwise, same_text}
use Rattle.std.proofs.lemmas.Bool.{eqb-true, eq-eqb}
use Rattle.std.proofs.lemmas.Cmp.{tied_itself}
use Rattle.std.proofs.lemmas.List.{length-append}
use Rattle.mg_value.specs.declared.value.Value.{Value}
use Rattle.mg_value.specs.declared.value.Value.TheVariants.{Text}
use Rattle.mg_value.specs.Values.{value_cmp}
use Rattle.mg_value.specs.OrderLaws.{same_from_value_cmp, value_cmp_total}
use Rattle.mg_model.specs.Changes.{Cells, same_key}
use Rattle.mg_model.specs.Catalog.{column_key, index_key, table_key, two_digits}
use Rattle.mg_catalog.specs.ByKey.{HasKey, HasRow, by_key, row_key}
use Rattle.mg_catalog.specs.RowRules.{column_text}

-- ---- same keys

equal_order : (o : Ordering) → is_eq o ≡ true → o ≡ Equal
equal_order Less e = absurd cc
equal_order Equal e = refl
equal_order Greater e = absurd cc

pub keys_equal : (a b : Value) → same_key a b ≡ true → a ≡ b
keys_equal a b e = same_from_value_cmp a b (equal_order (value_cmp a b) e)

pub same_key_self : (a : Value) → same_key a a ≡ true
same_key_self a = ap is_eq (tied_itself value_cmp_total a)

pub same_key_equal : (a b : Value) → a ≡ b → same_key a b ≡ true
same_key_equal a b e = let P : Value → Type 0 = λ v. same_key a v ≡ true in
    subst P e (same_key_self a)

pub same_key_other : (a b : Value) → a ≢ b → same_key a b ≡ false
same_key_other a b apart = at (same_key a b) refl
  where
    at : (t : Bool) → same_key a b ≡ t → same_key a b ≡ false
    at true e = absurd (apart (keys_equal a b e))
    at false e = e

-- a test that is true exactly where two keys are equal
pub tells_keys : (a b : Value) (t : Bool) → (t ≡ true → a ≡ b) → (a ≡ b → t ≡ true)
    → t ≡ same_key a b
tells_keys a b true gives needs = sym (same_key_equal a b (gives refl))
tells_keys a b false gives needs =
    sym (same_key_other a b (λ same. let bad = needs same in absurd cc))

-- ---- keys of columns

pub text_equal : (a b : List ℕ) → Text a ≡ Text b → a ≡ b
text_equal a b e = cc

pub rest_equal : (x y : ℕ) (a b : List ℕ) → x ∷ a ≡ y ∷ b → a ≡ b
rest_equal x y a b e = cc

pub first_equal : (x y : ℕ) (a b : List ℕ) → x ∷ a ≡ y ∷ b → x ≡ y
first_equal x y a b e = cc

-- lists with three more behind are equal, so the lists are, and each of the three
ends_equal : (a b : List ℕ) (p q r x y z : ℕ)
    → a ++ (p ∷ q ∷ r ∷ []) ≡ b ++ (x ∷ y ∷ z ∷ []) → (a ≡ b) × (q ≡ y) × (r ≡ z)
ends_equal [] [] p q r x y z e = (refl, cc, cc)
ends_equal [] (c ∷ b) p q r x y z e = absurd (too_long b (ap length e))
  where
    too_long : (b : List ℕ) → 3 ≡ length (c ∷ (b ++ (x ∷ y ∷ z ∷ []))) → ⊥
    too_long b same = omega (arith, length-append b (x ∷ y ∷ z ∷ []))
ends_equal (c ∷ a) [] p q r x y z e = absurd (too_long a (ap length e))
  where
    too_long : (a : List ℕ) → length (c ∷ (a ++ (p ∷ q ∷ r ∷ []))) ≡ 3 → ⊥
    too_long a same = omega (arith, length-append a (p ∷ q ∷ r ∷ []))
ends_equal (c ∷ a) (d ∷ b) p q r x y z e =
    at (ends_equal a b p q r x y z (rest_equal c d _ _ e)) (first_equal c d _ _ e)
  where
    at : (a ≡ b) × (q ≡ y) × (r ≡ z) → c ≡ d → (c ∷ a ≡ d ∷ b) × (q ≡ y) × (r ≡ z)
    at same first = (cc, same.1, same.2)

digits_equal : (p q : ℕ) → 48 + p / 10 ≡ 48 + q / 10 → 48 + p % 10 ≡ 48 + q % 10 → p ≡ q
digits_equal p q tens ones = omega arith

pub column_text_equal : (s t : List ℕ) (p q : ℕ) → column_text s p ≡ column_text t q
    → (s ≡ t) × (p ≡ q)
column_text_equal s t p q e =
    at (ends_equal s t 46 (48 + p / 10) (48 + p % 10) 46 (48 + q / 10) (48 + q % 10)
    (sym (append_assoc s (46 ∷ []) (two_digits p)) ∙ e ∙ append_assoc t (46 ∷ []) (two_digits q)))
  where
    at : (s ≡ t) × (48 + p / 10 ≡ 48 + q / 10) × (48 + p % 10 ≡ 48 + q % 10) → (s ≡ t) × (p ≡ q)
    at same = (same.0, digits_equal p q same.1 same.2)

pub column_key_equal : (s t : List ℕ) (p q : ℕ) → column_key s p ≡ column_key t q
    → (s ≡ t) × (p ≡ q)
column_key_equal s t p q e =
    column_text_equal s t p q (rest_equal 67 67 _ _ (text_equal _ _ e))

-- ---- the first row of a key

pub has_key : (rows : List Cells) (key : Value) (row : Cells) → by_key rows key ≡ Some row
    → HasKey rows key
has_key [] key row e = absurd cc
has_key (first ∷ rows) key row e = at (same_key (row_key first) key) refl (has_key rows key row)
  where
    at : (t : Bool) → same_key (row_key first) key ≡ t
        → (by_key rows key ≡ Some row → HasKey rows key) → HasKey (first ∷ rows) key
    at true same later = inl (keys_equal (row_key first) key same)
    at false other later = inr (later (rw other at e))

pub has_row : (rows : List Cells) (key : Value) (row : Cells) → by_key rows key ≡ Some row
    → HasRow rows row × (row_key row ≡ key)
has_row [] key row e = absurd cc
has_row (first ∷ rows) key row e = at (same_key (row_key first) key) refl (has_row rows key row)
  where
    here : first ≡ row → row_key first ≡ key → HasRow (first ∷ rows) row × (row_key row ≡ key)
    here is same = (inl is, ap row_key (sym is) ∙ same)

    there : HasRow rows row × (row_key row ≡ key)
        → HasRow (first ∷ rows) row × (row_key row ≡ key)
    there both = (inr both.0, both.1)

    at : (t : Bool) → same_key (row_key first) key ≡ t
        → (by_key rows key ≡ Some row → HasRow rows row × (row_key row ≡ key))
        → HasRow (first ∷ rows) row × (row_key row ≡ key)
    at true same later =
        here (let found : Some first ≡ Some row = rw same at e in cc)
        (keys_equal (row_key first) key same)
    at false other later = there (later (rw other at e))

pub key_found : (rows : List Cells) (key : Value) → HasKey rows key
    → (row : Cells) × (by_key rows key ≡ Some row)
key_found [] key has = absurd has
key_found (first ∷ rows) key has =
    at (same_key (row_key first) key) refl has (key_found rows key)
  where
    at : (t : Bool) → same_key (row_key first) key ≡ t
        → (row_key first ≡ key) ⊎ HasKey rows key
        → (HasKey rows key → (row : Cells) × (by_key rows key ≡ Some row))
        → (row : Cells) × (by_key (first ∷ rows) key ≡ Some row)
    at true same has later = (first, rw same refl)
    at false other (inl is) later =
        absurd (let same = same_key_equal (row_key first) key is in cc)
    at false other (inr has) later = let found = later has in (found.0, rw other found.1)

-- ---- tests of keys

-- the key with a name is that with another exactly where the names are the same
pub named_tested : (key : Value) (letter : ℕ) (found name : List ℕ) (t : Bool)
    → key ≡ Text (letter ∷ found) → t ≡ pointwise nat_eq found name
    → t ≡ same_key key (Text (letter ∷ name))
named_tested key letter found name t is test = tells_keys key (Text (letter ∷ name)) t
    (λ passed. is ∙ ap (λ (xs : List ℕ). Text (letter ∷ xs)) (same_text found name (sym passed ∙ test)))
    (λ same. test ∙ (bytes_decides found name).1
    (rest_equal letter letter _ _ (text_equal _ _ (sym is ∙ same))))

-- no key is the one of a name where it has no name
pub unnamed_tested : (key : Value) (letter : ℕ) (name : List ℕ)
    → ((other : List ℕ) → key ≢ Text (letter ∷ other)) → false ≡ same_key key (Text (letter ∷ name))
unnamed_tested key letter name none = sym (same_key_other key (Text (letter ∷ name)) (none name))

-- the key of a column is that of another of the table exactly where their places are the same
pub place_tested : (key : Value) (found table : List ℕ) (at place : ℕ)
    → key ≡ column_key found at → true ≡ pointwise nat_eq found table
    → (at == place) ≡ same_key key (column_key table place)
place_tested key found table at place is test = tells_keys key (column_key table place) (at == place)
    (λ passed. is ∙ (ap (λ (xs : List ℕ). column_key xs at) (same_text found table test)
    ∙ ap (λ (n : ℕ). column_key table n) (eqb-true at place passed)))
    (λ same. eq-eqb at place (column_key_equal found table at place (sym is ∙ same)).1)

-- the key of a column is of no other table
pub other_table_tested : (key : Value) (found table : List ℕ) (at place : ℕ) (t : Bool)
    → key ≡ column_key found at → t ≡ pointwise nat_eq found table → t ≡ false
    → t ≡ same_key key (column_key table place)
other_table_tested key found table at place t is test failed =
    tells_keys key (column_key table place) t (λ passed. absurd cc)
    (λ same. test ∙ (bytes_decides found table).1
    (column_key_equal found table at place (sym is ∙ same)).0)

-- ---- keys of different kinds

pub table_not_column : (name table : List ℕ) (place : ℕ) → table_key name ≡ column_key table place
    → ⊥
table_not_column name table place e =
    let first : ◌≡◌ {A = ℕ} 84 67 = first_equal 84 67 _ _ (text_equal _ _ e) in
    omega (arith, first)

pub index_not_column : (name table : List ℕ) (place : ℕ) → index_key name ≡ column_key table place
    → ⊥
index_not_column name table place e =
    let first : ◌≡◌ {A = ℕ} 73 67 = first_equal 73 67 _ _ (text_equal _ _ e) in
    omega (arith, first)

pub table_not_index : (name other : List ℕ) → table_key name ≡ index_key other → ⊥
table_not_index name other e =
    let first : ◌≡◌ {A = ℕ} 84 73 = first_equal 84 73 _ _ (text_equal _ _ e) in
    omega (arith, first)

pub table_key_equal : (name other : List ℕ) → table_key name ≡ table_key other → name ≡ other
table_key_equal name other e = rest_equal 84 84 _ _ (text_equal _ _ e)

pub index_key_equal : (name other : List ℕ) → index_key name ≡ index_key other → name ≡ other
index_key_equal name other e = rest_equal 73 73 _ _ (text_equal _ _ e)
