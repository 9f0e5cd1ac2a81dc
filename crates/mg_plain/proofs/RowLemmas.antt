-- Rows in key order: where a key stands, and what changes make of them.
use Rattle.std.proofs.Common.{◌≡◌, ℕ, zero, suc, ◌+◌, ◌<◌, ◌≤◌, ◌==◌, Bool, true, false, List, [], ◌∷◌, ◌++◌, length, drop, Option, refl, sym, ◌∙◌, ap, subst, cond, get_or, arith}
use Rattle.std.proofs.lemmas.List.{drop_more, length-drop}
use Rattle.std.specs.declared.cmp.Ordering.TheVariants.{Less, Equal, Greater}
use Rattle.mg_value.specs.declared.value.Value.{Value}
use Rattle.mg_value.specs.Values.{value_cmp}
use Rattle.mg_model.specs.declared.change.Change.{Change}
use Rattle.mg_model.specs.declared.change.Deed.{Deed}
use Rattle.mg_model.specs.declared.change.Deed.TheVariants.{Changed, Marked, Saved}
use Rattle.mg_model.specs.declared.change.Step.{Step}
use Rattle.mg_model.specs.Changes.{Cells, KeyedRows, same_name, put_row, rows_over}
use Rattle.mg_model.specs.Machine.{deeds_by, changes_in, changes_by}
use Rattle.mg_plain.specs.Places.{IsPlace, without_row, with_row_at}

-- whatever place is right in the rest is right in the whole
abbrev pub GoesOn : KeyedRows → Value → ℕ → Type 0
GoesOn rows key at = (n : ℕ) (found : Bool) → IsPlace (drop at rows) key n found → IsPlace rows key (at + n) found

pub goes_on : (rows : KeyedRows) (key : Value) (at : ℕ) (r : Value × Cells) → at < length rows
    → r ≡ get_or rows at r → value_cmp key r.0 ≡ Greater → GoesOn rows key at → GoesOn rows key (at + 1)
goes_on rows key at r inside is greater before n found rest =
    let here : IsPlace (drop at rows) key (suc n) found =
    subst (λ (x : KeyedRows). IsPlace x key (suc n) found) (sym (drop_more rows at r inside)) (subst (λ (q : Value × Cells). value_cmp key q.0 ≡ Greater) is greater, rest) in
    let sum : at + suc n ≡ at + 1 + n = omega arith in
    subst (λ (m : ℕ). IsPlace rows key m found) sum (before (suc n) found here)

pub is_less : (rows : KeyedRows) (key : Value) (at : ℕ) (r : Value × Cells) → at < length rows
    → r ≡ get_or rows at r → value_cmp key r.0 ≡ Less → GoesOn rows key at → IsPlace rows key at false
is_less rows key at r inside is less before =
    let here : IsPlace (drop at rows) key 0 false =
    subst (λ (x : KeyedRows). IsPlace x key 0 false) (sym (drop_more rows at r inside)) (subst (λ (q : Value × Cells). value_cmp key q.0 ≡ Less) is less) in
    let sum : at + 0 ≡ at = omega arith in
    subst (λ (m : ℕ). IsPlace rows key m false) sum (before 0 false here)

pub is_equal : (rows : KeyedRows) (key : Value) (at : ℕ) (r : Value × Cells) → at < length rows
    → r ≡ get_or rows at r → value_cmp key r.0 ≡ Equal → GoesOn rows key at → IsPlace rows key at true
is_equal rows key at r inside is equal before =
    let here : IsPlace (drop at rows) key 0 true =
    subst (λ (x : KeyedRows). IsPlace x key 0 true) (sym (drop_more rows at r inside)) (subst (λ (q : Value × Cells). value_cmp key q.0 ≡ Equal) is equal) in
    let sum : at + 0 ≡ at = omega arith in
    subst (λ (m : ℕ). IsPlace rows key m true) sum (before 0 true here)

pub is_end : (rows : KeyedRows) (key : Value) (at : ℕ) → length rows ≤ at → at ≤ length rows
    → GoesOn rows key at → IsPlace rows key (length rows) false
is_end rows key at past within before =
    let here : IsPlace (drop at rows) key 0 false =
    none_left (drop at rows) (omega (arith, length-drop at rows)) in
    let sum : at + 0 ≡ length rows = omega arith in
    subst (λ (m : ℕ). IsPlace rows key m false) sum (before 0 false here)
  where
    none_left : (x : KeyedRows) → length x ≤ 0 → IsPlace x key 0 false
    none_left [] none = (refl, refl)
    none_left (y ∷ x) none = absurd (omega arith)

-- a change of rows is one at the place of its key
pub put_row-at : (rows : KeyedRows) (key : Value) (row : Option Cells) (n : ℕ) (found : Bool)
    → IsPlace rows key n found → with_row_at n key row (without_row n found rows) ≡ put_row key row rows
put_row-at [] key row n true place = absurd (let e = place.1 in cc)
put_row-at [] key row zero false place = refl
put_row-at [] key row (suc n) false place = absurd (omega (arith, place.0))
put_row-at (r ∷ rows) key row zero true place = rw place refl
put_row-at (r ∷ rows) key row zero false place = rw place refl
put_row-at (r ∷ rows) key row (suc n) true place =
    rw place.0 (ap (λ (x : KeyedRows). r ∷ x) (put_row-at rows key row n true place.1))
put_row-at (r ∷ rows) key row (suc n) false place =
    rw place.0 (ap (λ (x : KeyedRows). r ∷ x) (put_row-at rows key row n false place.1))

pub place_within : (rows : KeyedRows) (key : Value) (n : ℕ) (found : Bool)
    → IsPlace rows key n found → n ≤ length rows
place_within [] key n found place = omega (arith, place.0)
place_within (r ∷ rows) key zero found place = omega arith
place_within (r ∷ rows) key (suc n) found place =
    let more = place_within rows key n found place.1 in omega arith

pub found_within : (rows : KeyedRows) (key : Value) (n : ℕ)
    → IsPlace rows key n true → n < length rows
found_within [] key n place = absurd (let e = place.1 in cc)
found_within (r ∷ rows) key zero place = omega arith
found_within (r ∷ rows) key (suc n) place =
    let more = found_within rows key n place.1 in omega arith

pub place_after : (rows : KeyedRows) (key : Value) (n : ℕ) (found : Bool)
    → IsPlace rows key n found → n ≤ length (without_row n found rows)
place_after [] key n true place = absurd (let e = place.1 in cc)
place_after [] key n false place = omega (arith, place.0)
place_after (r ∷ rows) key zero found place = omega arith
place_after (r ∷ rows) key (suc n) true place =
    let more = place_after rows key n true place.1 in omega arith
place_after (r ∷ rows) key (suc n) false place =
    let more = place_after rows key n false place.1 in omega arith

-- changes put in one after another
pub rows_over-append : (a b : List Change) (table : List ℕ) (rows : KeyedRows)
    → rows_over (a ++ b) table rows ≡ rows_over a table (rows_over b table rows)
rows_over-append [] b table rows = refl
rows_over-append (c ∷ a) b table rows =
    at (same_name c.table table) (rows_over-append a b table rows)
  where
    at : (same : Bool)
        → rows_over (a ++ b) table rows ≡ rows_over a table (rows_over b table rows)
        → cond same (put_row c.key c.row (rows_over (a ++ b) table rows)) (rows_over (a ++ b) table rows)
        ≡ cond same (put_row c.key c.row (rows_over a table (rows_over b table rows))) (rows_over a table (rows_over b table rows))
    at true more = ap (put_row c.key c.row) more
    at false more = more

pub changes_in-append : (a b : List Deed) → changes_in (a ++ b) ≡ changes_in a ++ changes_in b
changes_in-append [] b = refl
changes_in-append (Changed c ∷ a) b = ap (λ (x : List Change). c ∷ x) (changes_in-append a b)
changes_in-append (Marked ∷ a) b = changes_in-append a b
changes_in-append (Saved name ∷ a) b = changes_in-append a b

pub deeds_by-append : (t : ℕ) (a b : List Step) → deeds_by t (a ++ b) ≡ deeds_by t a ++ deeds_by t b
deeds_by-append t [] b = refl
deeds_by-append t (s ∷ a) b = at (s.by.0 == t) (deeds_by-append t a b)
  where
    at : (same : Bool) → deeds_by t (a ++ b) ≡ deeds_by t a ++ deeds_by t b
        → cond same (s.deed ∷ deeds_by t (a ++ b)) (deeds_by t (a ++ b))
        ≡ cond same (s.deed ∷ deeds_by t a) (deeds_by t a) ++ deeds_by t b
    at true more = ap (λ (x : List Deed). s.deed ∷ x) more
    at false more = more

pub changes_by-append : (t : ℕ) (a b : List Step)
    → changes_by t (a ++ b) ≡ changes_by t a ++ changes_by t b
changes_by-append t a b =
    ap changes_in (deeds_by-append t a b) ∙ changes_in-append (deeds_by t a) (deeds_by t b)

-- the newest is put in last
pub changes_left : (all before : List Change) (last : Change) (table : List ℕ) (rows : KeyedRows)
    → all ≡ before ++ last ∷ []
    → rows_over before table (rows_over (last ∷ []) table rows) ≡ rows_over all table rows
changes_left all before last table rows is =
    rw is (sym (rows_over-append before (last ∷ []) table rows))

pub steps_left : (t : ℕ) (all before : List Step) (last : Step) (table : List ℕ) (rows : KeyedRows)
    → all ≡ before ++ last ∷ []
    → rows_over (changes_by t before) table (rows_over (changes_by t (last ∷ [])) table rows)
    ≡ rows_over (changes_by t all) table rows
steps_left t all before last table rows is =
    rw (is, changes_by-append t before (last ∷ []))
    (sym (rows_over-append (changes_by t before) (changes_by t (last ∷ [])) table rows))
