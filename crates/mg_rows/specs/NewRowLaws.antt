-- New rows fit the columns of their table, and the rows that an UPDATE makes have their old keys.
use Rattle.std.proofs.Common.{◌≡◌, ◌≢◌, ℕ, zero, suc, ◌==◌, ◌≤◌, ◌&&◌, ◌||◌, Bool, true, false, nat_lt, List, [], ◌∷◌, length, map, slice_set, slice_get, cond, Option, Some, None, Result, Ok, Err, refl, sym, ap, subst, ◌∙◌, arith}
use Rattle.std.specs.List.{list_any}
use Rattle.std.proofs.lemmas.Bool.{false≢true}
use Rattle.std.proofs.lemmas.List.{get_or-set_other}
use Rattle.mg_value.specs.declared.shape.Kind.{Kind}
use Rattle.mg_value.specs.declared.shape.Kind.TheVariants as kinds
use Rattle.mg_value.specs.declared.shape.Column.{Column}
use Rattle.mg_value.specs.declared.value.Value.{Value}
use Rattle.mg_value.specs.declared.value.Value.TheVariants.{Null, Int, Text}
use Rattle.mg_value.specs.Rows.{FitsKind, RowFits, is_null}
use Rattle.mg_expr.specs.Trees.{Tree}
use Rattle.mg_expr.specs.Meaning.{Says, Gives, Holds, Faults, value_in, says}
use Rattle.mg_expr.specs.Typing.{Sort, OfIntegers, OfTexts, OfNull, OfTruths, sort_of, FitsSort, IsOfSort}
use Rattle.mg_expr.specs.TypingLaws.{types_hold}
use Rattle.mg_plan.specs.Types.{fits_kind, fits_column, fit_places}
use Rattle.mg_model.specs.Changes.{Cells}
use Rattle.mg_rows.specs.declared.fault.NewRowFault.{NewRowFault}
use Rattle.mg_rows.specs.declared.fault.NewRowFault.TheVariants.{NullNotAllowed}
use Rattle.mg_rows.specs.Orders.{value_at}
use Rattle.mg_rows.specs.Selecting.{with_front, tree_value, each_value}
use Rattle.mg_rows.specs.NewRows.{null_row, put_all, has_null, too_long, first_of, first_too_long, row_fault, unless, row_with, new_row, inserted, before, updated}

-- ---- values of the kinds of their columns

-- a value is of a kind, however long a text is
abbrev IsOfKind : Kind → Value → Type 0
IsOfKind kind Null = Unit {0}
IsOfKind kinds.Int (Int number) = Unit {0}
IsOfKind kinds.Int (Text text) = ⊥
IsOfKind (kinds.Text most) (Int number) = ⊥
IsOfKind (kinds.Text most) (Text text) = Unit {0}

abbrev AreOfKinds : List Column → Cells → Type 0
AreOfKinds [] [] = Unit {0}
AreOfKinds [] (value ∷ values) = ⊥
AreOfKinds (column ∷ columns) [] = ⊥
AreOfKinds (column ∷ columns) (value ∷ values) = IsOfKind column.kind value × AreOfKinds columns values

kind_of_fitting : (kind : Kind) (value : Value) → FitsKind kind value → IsOfKind kind value
kind_of_fitting kind Null fit = tt
kind_of_fitting kinds.Int (Int number) fit = tt
kind_of_fitting kinds.Int (Text text) fit = absurd fit
kind_of_fitting (kinds.Text most) (Int number) fit = absurd fit
kind_of_fitting (kinds.Text most) (Text text) fit = tt

kinds_of_fitting : (columns : List Column) (row : Cells) → RowFits columns row → AreOfKinds columns row
kinds_of_fitting [] [] fit = tt
kinds_of_fitting [] (value ∷ values) fit = absurd fit
kinds_of_fitting (column ∷ columns) [] fit = absurd fit
kinds_of_fitting (column ∷ columns) (value ∷ values) fit =
    (kind_of_fitting column.kind value fit.0.kind, kinds_of_fitting columns values fit.1)

nulls_of_kinds : (columns : List Column) → AreOfKinds columns (null_row columns)
nulls_of_kinds [] = tt
nulls_of_kinds (column ∷ columns) = (tt, nulls_of_kinds columns)

-- ---- without a fault they fit

pub or_parts : (a b : Bool) → (a || b) ≡ false → (a ≡ false) × (b ≡ false)
or_parts true b none = absurd (false≢true (sym none))
or_parts false b none = (refl, none)

first_none : (fault next : Option NewRowFault) → first_of fault next ≡ None
    → (fault ≡ None) × (next ≡ None)
first_none None next none = (refl, none)
first_none (Some fault) next none = absurd cc

not_longer : (most len : ℕ) (fault : NewRowFault) → cond (nat_lt most len) (Some fault) None ≡ None
    → len ≤ most
not_longer most len fault none = grind arith

kind_fits : (kind : Kind) (value : Value) → IsOfKind kind value → too_long kind value ≡ None
    → FitsKind kind value
kind_fits kind Null of_kind short = tt
kind_fits kinds.Int (Int number) of_kind short = tt
kind_fits kinds.Int (Text text) of_kind short = absurd of_kind
kind_fits (kinds.Text most) (Int number) of_kind short = absurd of_kind
kind_fits (kinds.Text most) (Text text) of_kind short = not_longer most (length text) _ short

allowed : (not_null : Bool) (value : Value) → (not_null && is_null value) ≡ false
    → not_null ≡ true → value ≢ Null
allowed true Null none is null = false≢true (sym none)
allowed true (Int number) none is null = absurd cc
allowed true (Text text) none is null = absurd cc
allowed false value none is null = false≢true is

row_fits : (columns : List Column) (row : Cells) → AreOfKinds columns row
    → has_null columns row ≡ false → first_too_long columns row ≡ None → RowFits columns row
row_fits [] [] of_kinds none short = tt
row_fits [] (value ∷ values) of_kinds none short = absurd of_kinds
row_fits (column ∷ columns) [] of_kinds none short = absurd of_kinds
row_fits (column ∷ columns) (value ∷ values) of_kinds none short =
    let nulls = or_parts (column.not_null && is_null value) (has_null columns values) none in
    let texts = first_none (too_long column.kind value) (first_too_long columns values) short in (
      record {
        kind = kind_fits column.kind value of_kinds.0 texts.0;
        allowed = allowed column.not_null value nulls.0;
      },
      row_fits columns values of_kinds.1 nulls.1 texts.1,
    )

no_fault : (nulls : Bool) (texts : Option NewRowFault)
    → cond nulls (Some NullNotAllowed) texts ≡ None → (nulls ≡ false) × (texts ≡ None)
no_fault true texts none = absurd cc
no_fault false texts none = (refl, none)

unless_ok : (fault : Option NewRowFault) (row made : Cells) → unless fault row ≡ Ok made
    → (fault ≡ None) × (row ≡ made)
unless_ok None row made is = (refl, cc)
unless_ok (Some fault) row made is = absurd cc

-- a row that is made of values of the columns' kinds fits
checked_fits : (columns : List Column) (row made : Cells) → AreOfKinds columns row
    → unless (row_fault columns row) row ≡ Ok made → RowFits columns made
checked_fits columns row made of_kinds is =
    let parts = unless_ok (row_fault columns row) row made is in
    let sound = no_fault (has_null columns row) (first_too_long columns row) parts.0 in
    subst (RowFits columns) parts.1 (row_fits columns row of_kinds sound.0 sound.1)

-- ---- values that are put

set_of_kind : (columns : List Column) (row : Cells) (place : ℕ) (value : Value)
    → AreOfKinds columns row → ((column : Column) → slice_get columns place ≡ Some column → IsOfKind column.kind value)
    → AreOfKinds columns (slice_set row place value)
set_of_kind [] [] place value of_kinds is = tt
set_of_kind [] (v ∷ values) place value of_kinds is = absurd of_kinds
set_of_kind (column ∷ columns) [] place value of_kinds is = absurd of_kinds
set_of_kind (column ∷ columns) (v ∷ values) zero value of_kinds is =
    (is column refl, of_kinds.1)
set_of_kind (column ∷ columns) (v ∷ values) (suc place) value of_kinds is =
    (of_kinds.0, set_of_kind columns values place value of_kinds.1 is)

sort_of_kind_fits : (kind : Kind) (sort : Sort) (value : Value) → FitsSort sort value
    → fits_kind kind (Some sort) ≡ true → IsOfKind kind value
sort_of_kind_fits kind sort Null fit is = tt
sort_of_kind_fits kinds.Int OfIntegers (Int number) fit is = tt
sort_of_kind_fits kinds.Int OfIntegers (Text text) fit is = absurd fit
sort_of_kind_fits kinds.Int OfTexts (Int number) fit is = absurd fit
sort_of_kind_fits kinds.Int OfTexts (Text text) fit is = absurd (false≢true is)
sort_of_kind_fits kinds.Int OfNull (Int number) fit is = absurd fit
sort_of_kind_fits kinds.Int OfNull (Text text) fit is = absurd fit
sort_of_kind_fits kinds.Int OfTruths (Int number) fit is = absurd fit
sort_of_kind_fits kinds.Int OfTruths (Text text) fit is = absurd fit
sort_of_kind_fits (kinds.Text most) OfIntegers (Int number) fit is = absurd (false≢true is)
sort_of_kind_fits (kinds.Text most) OfIntegers (Text text) fit is = absurd fit
sort_of_kind_fits (kinds.Text most) OfTexts (Int number) fit is = absurd fit
sort_of_kind_fits (kinds.Text most) OfTexts (Text text) fit is = tt
sort_of_kind_fits (kinds.Text most) OfNull (Int number) fit is = absurd fit
sort_of_kind_fits (kinds.Text most) OfNull (Text text) fit is = absurd fit
sort_of_kind_fits (kinds.Text most) OfTruths (Int number) fit is = absurd fit
sort_of_kind_fits (kinds.Text most) OfTruths (Text text) fit is = absurd fit

no_truth : (kind : Kind) → fits_kind kind (Some OfTruths) ≡ true → ⊥
no_truth kinds.Int is = false≢true is
no_truth (kinds.Text most) is = false≢true is

typed_value : (kind : Kind) (said : Says) (sort : Sort) (value : Value) → IsOfSort said sort
    → value_in said ≡ Some value → fits_kind kind (Some sort) ≡ true → IsOfKind kind value
typed_value kind (Gives given) sort value of_sort is fits =
    let same : given ≡ value = cc in
    subst (IsOfKind kind) same (sort_of_kind_fits kind sort given of_sort fits)
typed_value kind (Holds truth) OfIntegers value of_sort is fits = absurd of_sort
typed_value kind (Holds truth) OfTexts value of_sort is fits = absurd of_sort
typed_value kind (Holds truth) OfNull value of_sort is fits = absurd of_sort
typed_value kind (Holds truth) OfTruths value of_sort is fits = absurd (no_truth kind fits)
typed_value kind Faults sort value of_sort is fits = absurd cc

no_sort : (kind : Kind) → fits_kind kind None ≡ true → ⊥
no_sort kinds.Int is = false≢true is
no_sort (kinds.Text most) is = false≢true is

-- the value of an expression that fits a column is of the column's kind
column_value : (columns typing : List Column) (place : ℕ) (t : Tree) (row : Cells) (value : Value)
    (column : Column) → RowFits typing row
    → fits_column (slice_get columns place) (sort_of t typing) ≡ true
    → tree_value t row ≡ Some value → slice_get columns place ≡ Some column
    → IsOfKind column.kind value
column_value columns typing place t row value column fit typed is there =
    at (sort_of t typing) refl (sym (ap (λ (c : Option Column). fits_column c (sort_of t typing)) there) ∙ typed)
  where
    at : (sort : Option Sort) → sort_of t typing ≡ sort
        → fits_column (Some column) (sort_of t typing) ≡ true → IsOfKind column.kind value
    at None same fits_ =
        absurd (no_sort column.kind (sym (ap (fits_kind column.kind) same) ∙ fits_))
    at (Some sort) same fits_ =
        typed_value column.kind (says t row) sort value (types_hold t typing row sort same fit) is
        (sym (ap (fits_kind column.kind) same) ∙ fits_)

pub and_parts : (a b : Bool) → (a && b) ≡ true → (a ≡ true) × (b ≡ true)
and_parts true b is = (refl, is)
and_parts false b is = absurd (false≢true is)

record FrontParts {A : Type 0} (one : Option A) (others : Option (List A)) (all : List A) : Type 0 where
  first : A
  rest : List A
  one_is : one ≡ Some first
  others_are : others ≡ Some rest
  all_are : first ∷ rest ≡ all

front_parts : {A : Type 0} (one : Option A) (others : Option (List A)) (all : List A)
    → with_front one others ≡ Some all → FrontParts one others all
front_parts None others all is = absurd cc
front_parts (Some first) None all is = absurd cc
front_parts (Some first) (Some rest) all is =
    record { first = first; rest = rest; one_is = refl; others_are = refl; all_are = cc }

put_of_kinds : (columns typing : List Column) (places : List ℕ) (ts : List Tree) (row values base : Cells)
    → RowFits typing row → fit_places columns places (map (λ t. sort_of t typing) ts) ≡ true
    → each_value ts row ≡ Some values → AreOfKinds columns base
    → AreOfKinds columns (put_all places values base)
put_of_kinds columns typing [] ts row values base fit typed are of_kinds = of_kinds
put_of_kinds columns typing (place ∷ places) [] row values base fit typed are of_kinds =
    absurd (false≢true typed)
put_of_kinds columns typing (place ∷ places) (t ∷ ts) row values base fit typed are of_kinds =
    let parts = front_parts (tree_value t row) (each_value ts row) values are in
    let types = and_parts (fits_column (slice_get columns place) (sort_of t typing))
    (fit_places columns places (map (λ t. sort_of t typing) ts)) typed in
    let P : Cells → Type 0 = λ vs. AreOfKinds columns (put_all (place ∷ places) vs base) in
    subst P parts.all_are
    (set_of_kind columns (put_all places parts.rest base) place parts.first
    (put_of_kinds columns typing places ts row parts.rest base fit types.1 parts.others_are of_kinds)
    (λ column there. column_value columns typing place t row parts.first column fit types.0 parts.one_is there))

made_fits : (columns typing : List Column) (places : List ℕ) (ts : List Tree) (row base made : Cells)
    → RowFits typing row → fit_places columns places (map (λ t. sort_of t typing) ts) ≡ true
    → AreOfKinds columns base → row_with columns places (each_value ts row) base ≡ Ok made
    → RowFits columns made
made_fits columns typing places ts row base made fit typed of_kinds is =
    at (each_value ts row) refl is
  where
    at : (values : Option (List Value)) → each_value ts row ≡ values
        → row_with columns places values base ≡ Ok made → RowFits columns made
    at None same is_ = absurd cc
    at (Some values) same is_ =
        checked_fits columns (put_all places values base) made
        (put_of_kinds columns typing places ts row values base fit typed same of_kinds) is_

-- ---- the laws

-- The row that an INSERT makes fits the columns, where its expressions fit the columns at their places.
pub inserted_fits : (columns : List Column) (places : List ℕ) (ts : List Tree) (made : Cells)
    → fit_places columns places (map (λ t. sort_of t []) ts) ≡ true
    → inserted columns places ts ≡ Ok made → RowFits columns made
inserted_fits columns places ts made typed is =
    made_fits columns [] places ts [] (null_row columns) made tt typed (nulls_of_kinds columns) is

-- A row that an UPDATE makes fits the columns, where the old one does, and its expressions fit the
-- columns at their places.
pub updated_fits : (columns : List Column) (places : List ℕ) (ts : List Tree) (row made : Cells)
    → RowFits columns row → fit_places columns places (map (λ t. sort_of t columns) ts) ≡ true
    → new_row columns places ts row ≡ Ok made → RowFits columns made
updated_fits columns places ts row made fit typed is =
    made_fits columns columns places ts row row made fit typed (kinds_of_fitting columns row fit) is

unequal : (p key : ℕ) → (p == key) ≡ false → key ≢ p
unequal p key none = grind arith

put_others : (places : List ℕ) (values row : Cells) (key : ℕ) → list_any (λ p. p == key) places ≡ false
    → value_at key (put_all places values row) ≡ value_at key row
put_others [] values row key none = refl
put_others (p ∷ places) [] row key none = refl
put_others (p ∷ places) (value ∷ values) row key none =
    let parts = or_parts (p == key) (list_any (λ p. p == key) places) none in
    get_or-set_other (put_all places values row) p key value Null (unequal p key parts.0)
    ∙ put_others places values row key parts.1

-- A row that an UPDATE makes has its old key, where it sets no column at the key's place.
pub key_stays : (columns : List Column) (places : List ℕ) (ts : List Tree) (key : ℕ) (row made : Cells)
    → list_any (λ p. p == key) places ≡ false → new_row columns places ts row ≡ Ok made
    → value_at key made ≡ value_at key row
key_stays columns places ts key row made none is = at (each_value ts row) is
  where
    at : (values : Option (List Value)) → row_with columns places values row ≡ Ok made
        → value_at key made ≡ value_at key row
    at None is_ = absurd cc
    at (Some values) is_ =
        ap (value_at key) (sym ((unless_ok (row_fault columns (put_all places values row))
        (put_all places values row) made is_).1))
        ∙ put_others places values row key none

-- ---- several rows

-- each of the new rows is so made of the old one at its place, and there is one for each
abbrev pub EachFrom : (Cells → Cells → Type 0) → List Cells → List Cells → Type 0
EachFrom P [] [] = Unit {0}
EachFrom P [] (made ∷ others) = ⊥
EachFrom P (row ∷ rows) [] = ⊥
EachFrom P (row ∷ rows) (made ∷ others) = P row made × EachFrom P rows others

made_each : (columns : List Column) (places : List ℕ) (ts : List Tree) (row : Cells) (rows : List Cells)
    (one : Result Cells NewRowFault) (others : Result (List Cells) NewRowFault) (made : List Cells)
    → new_row columns places ts row ≡ one
    → ((rest : List Cells) → others ≡ Ok rest
    → EachFrom (λ row made. new_row columns places ts row ≡ Ok made) rows rest)
    → before one others ≡ Ok made
    → EachFrom (λ row made. new_row columns places ts row ≡ Ok made) (row ∷ rows) made
made_each columns places ts row rows (Err fault) others made is each all = absurd cc
made_each columns places ts row rows (Ok one) (Err fault) made is each all = absurd cc
made_each columns places ts row rows (Ok one) (Ok rest) made is each all =
    let P : List Cells → Type 0 =
    λ made. EachFrom (λ row made. new_row columns places ts row ≡ Ok made) (row ∷ rows) made in
    let same : (one ∷ rest) ≡ made = cc in
    subst P same (is, each rest refl)

-- an UPDATE makes a row of each of the old ones
pub updated_each : (columns : List Column) (places : List ℕ) (ts : List Tree) (rows made : List Cells)
    → updated columns places ts rows ≡ Ok made
    → EachFrom (λ row made. new_row columns places ts row ≡ Ok made) rows made
updated_each columns places ts [] [] is = tt
updated_each columns places ts [] (made ∷ others) is = absurd cc
updated_each columns places ts (row ∷ rows) made is =
    made_each columns places ts row rows (new_row columns places ts row)
    (updated columns places ts rows) made refl (updated_each columns places ts rows) is
