-- A new table whose binding nothing refuses has a shape that a new table may have, and fits its pages.
use Rattle.std.proofs.Common.{◌≡◌, ◌≢◌, ℕ, zero, suc, ◌+◌, ◌≤◌, ◌/◌, ◌==◌, ◌||◌, not, Bool, true, false, List, [], ◌∷◌, length, map, Option, Some, None, refl, sym, ap, subst, ◌∙◌, arith}
use Rattle.std.specs.Prelude.{All, nat_lt, count_by, slice_get, cond, if◌then◌else◌, option_map}
use Rattle.std.specs.List.{list_any}
use Rattle.std.proofs.lemmas.Bool.{eqb-true, false≢true, ltb-false}
use Rattle.std.proofs.lemmas.List.{length-map}
use Rattle.std.proofs.lemmas.List.Elements.{All-map}
use Rattle.std.proofs.lemmas.List.Sums.{sum_by-cons}
use Rattle.std.proofs.lemmas.Option.{slice_get-map}
use Rattle.mg_value.specs.Names.{IsName}
use Rattle.mg_value.specs.declared.shape.Column.{Column}
use Rattle.mg_value.specs.declared.shape.TheConstants.{MOST_COLUMNS}
use Rattle.mg_value.specs.Rows.{row_len_of}
use Rattle.mg_sortkey.specs.KeyBytes.{most_key_bytes}
use Rattle.mg_statements.specs.declared.statement.Def.{Def}
use Rattle.mg_statements.specs.Plain.{Plain, Table as Creation}
use Rattle.mg_plan.specs.declared.fault.PlanFault.TheVariants as plans
use Rattle.mg_plan.specs.Names.{has_twice}
use Rattle.mg_plan.specs.Refusing.{first_refusal}
use Rattle.mg_plan.specs.Shapes.{column_of, key_from, key_len, shape_of}
use Rattle.mg_plan.specs.Statements.{bound_plain, count_defined, columns_listed, do_counts_match, has_one_key, is_all_known, is_typed, new_key_len, new_row_len, places_in, sets_key}
use Rattle.mg_model.specs.Catalog.{catalog_name}
use Rattle.mg_model.specs.Changes.{same_name}
use Rattle.mg_model.specs.ReadLaws.{same_name_itself}
use Rattle.mg_records.specs.Meaning.{Means}
use Rattle.mg_records.specs.Writing.{AreApart, FitsPage, IsKeyColumn, IsNewShape, IsOfLength, most_of}
use Rattle.mg_exec.specs.declared.phase.NewTable.{NewTable}
use Rattle.mg_exec.specs.NewTables.{CreatesTable, IsPlanned}
use Rattle.mg_exec.specs.Phases.{IsReadyToCreate}
use Rattle.mg_exec.proofs.StartLemmas.{passed}

-- ---- the tests that it passed

-- What CREATE TABLE passed.
record Passes (size : ℕ) (columns : List Def) : Type 0 where
  pub apart : has_twice (map (λ d. d.name) columns) ≡ false
  pub few : nat_lt MOST_COLUMNS (length columns) ≡ false
  pub one_key : (count_by (λ d. d.key) columns == 1) ≡ true
  pub rows : nat_lt (size / 2) (row_len_of (map column_of columns)) ≡ false
  pub keys : nat_lt (size / 8) (key_len columns) ≡ false

not_not : (b : Bool) → not b ≡ false → b ≡ true
not_not true is = refl
not_not false is = absurd (false≢true (sym is))

passes : (name : List ℕ) (columns : List Def) (size : ℕ)
    → first_refusal [] 0 size (Creation name columns) ≡ None → Passes size columns
passes name columns size none =
    let s = Creation name columns in
    let a = passed (has_twice (columns_listed s)) plans.ColumnExists _ none in
    let b = passed (nat_lt MOST_COLUMNS (count_defined s)) (plans.TooMany MOST_COLUMNS) _ a.1 in
    let c = passed (not (is_all_known [] s)) plans.NoColumn _ b.1 in
    let d = passed (not (has_one_key s)) plans.OneKey _ c.1 in
    let e = passed (not (do_counts_match [] s)) plans.CountMismatch _ d.1 in
    let f = passed (sets_key [] 0 s) plans.KeyChange _ e.1 in
    let g = passed (not (is_typed [] (places_in [] s) (bound_plain [] s))) plans.TypeMismatch _ f.1 in
    let i = passed (nat_lt (size / 2) (new_row_len s)) (plans.RowTooLong (new_row_len s) (size / 2)) _ g.1 in
    let j = passed (nat_lt (size / 8) (new_key_len s)) (plans.KeyTooLong (new_key_len s) (size / 8)) _ i.1 in
    record { apart = a.0; few = b.0; one_key = not_not (has_one_key s) d.0; rows = i.0; keys = j.0 }

at_most : (a b : ℕ) → nat_lt a b ≡ false → b ≤ a
at_most a b not_less = ltb-false a b not_less

-- a table has no more columns than tables have
pub few_defined : (s : Plain) (size : ℕ) → first_refusal [] 0 size s ≡ None
    → count_defined s ≤ MOST_COLUMNS
few_defined s size none =
    let a = passed (has_twice (columns_listed s)) plans.ColumnExists _ none in
    let b = passed (nat_lt MOST_COLUMNS (count_defined s)) (plans.TooMany MOST_COLUMNS) _ a.1 in
    at_most MOST_COLUMNS (count_defined s) b.0

-- ---- names

named_so : (columns : List Def) → map (λ (c : Column). c.name) (map column_of columns) ≡ map (λ d. d.name) columns
named_so [] = refl
named_so (d ∷ columns) = ap (λ (names : List (List ℕ)). d.name ∷ names) (named_so columns)

either_false : (a b : Bool) → (a || b) ≡ false → (a ≡ false) × (b ≡ false)
either_false true b is = absurd (false≢true (sym is))
either_false false b is = (refl, is)

-- no column among these has the name
none_named : (name : List ℕ) (columns : List Column) (j : ℕ) (b : Column)
    → list_any (λ other. same_name other name) (map (λ (c : Column). c.name) columns) ≡ false
    → slice_get columns j ≡ Some b → b.name ≡ name → ⊥
none_named name [] j b none is same = absurd cc
none_named name (c ∷ columns) zero b none is same =
    let other = (either_false (same_name c.name name) (list_any (λ other. same_name other name) (map (λ (c : Column). c.name) columns)) none).0 in
    let there : c ≡ b = inside c b is in
    false≢true (sym other ∙ ap (λ (x : List ℕ). same_name x name) (ap (λ (c : Column). c.name) there ∙ same) ∙ same_name_itself name)
  where
    inside : (x y : Column) → ◌≡◌ {A = Option Column} (Some x) (Some y) → x ≡ y
    inside x y is = cc
none_named name (c ∷ columns) (suc j) b none is same =
    none_named name columns j b (either_false (same_name c.name name) (list_any (λ other. same_name other name) (map (λ (c : Column). c.name) columns)) none).1 is same

apart : (columns : List Column) → has_twice (map (λ (c : Column). c.name) columns) ≡ false → AreApart columns
apart [] none i j a b first second same = absurd cc
apart (c ∷ columns) none zero zero a b first second same = refl
apart (c ∷ columns) none zero (suc j) a b first second same =
    absurd (none_named c.name columns j b (either_false _ (has_twice (map (λ (c : Column). c.name) columns)) none).0
    second (sym same ∙ ap (λ (c : Column). c.name) (sym (inside c a first))))
  where
    inside : (x y : Column) → ◌≡◌ {A = Option Column} (Some x) (Some y) → x ≡ y
    inside x y is = cc
apart (c ∷ columns) none (suc i) zero a b first second same =
    absurd (none_named c.name columns i a (either_false _ (has_twice (map (λ (c : Column). c.name) columns)) none).0
    first (same ∙ ap (λ (c : Column). c.name) (sym (inside c b second))))
  where
    inside : (x y : Column) → ◌≡◌ {A = Option Column} (Some x) (Some y) → x ≡ y
    inside x y is = cc
apart (c ∷ columns) none (suc i) (suc j) a b first second same =
    ap suc (apart columns (either_false _ (has_twice (map (λ (c : Column). c.name) columns)) none).1 i j a b first second same)

-- ---- the key

-- the first column that is a key
record FirstKey (place : ℕ) (columns : List Def) : Type 0 where
  pub at : ℕ
  pub d : Def
  pub there : slice_get columns at ≡ Some d
  pub is_key : d.key ≡ true
  pub from : key_from place columns ≡ place + at
  pub len : key_len columns ≡ most_key_bytes d.kind

first_key : (place : ℕ) (columns : List Def) → (count_by (λ d. d.key) columns ≡ 0 → ⊥) → FirstKey place columns
first_key place [] some = absurd (some refl)
first_key place (d ∷ columns) some = by d.key refl (λ more. first_key (place + 1) columns more)
  where
    counts : count_by (λ d. d.key) (d ∷ columns) ≡ cond d.key 1 0 + count_by (λ d. d.key) columns
    counts = sum_by-cons (λ d. cond d.key 1 0) d columns

    by : (b : Bool) → d.key ≡ b
        → ((count_by (λ (d : Def). d.key) columns ≡ 0 → ⊥) → FirstKey (place + 1) columns)
        → FirstKey place (d ∷ columns)
    by true is behind = record {
      at = 0;
      d = d;
      there = refl;
      is_key = is;
      from = ap (λ (b : Bool). if b then place else key_from (place + 1) columns) is ∙ omega arith;
      len = ap (λ (b : Bool). if b then most_key_bytes d.kind else key_len columns) is;
    }
    by false is behind =
        let k = behind (λ none. some (counts ∙ omega (arith, ap {B = ℕ} (λ (b : Bool). cond b 1 0) is, none))) in
        record {
          at = suc k.at;
          d = k.d;
          there = k.there;
          is_key = k.is_key;
          from = ap (λ (b : Bool). if b then place else key_from (place + 1) columns) is ∙ k.from ∙ omega arith;
          len = ap (λ (b : Bool). if b then most_key_bytes d.kind else key_len columns) is ∙ k.len;
        }

-- the column of the key
key_column : (columns : List Def) (k : FirstKey 0 columns)
    → slice_get (map column_of columns) (key_from 0 columns) ≡ Some (column_of k.d)
key_column columns k =
    ap (λ (n : ℕ). slice_get (map column_of columns) n) (k.from ∙ omega arith)
    ∙ slice_get-map column_of columns k.at ∙ ap (option_map column_of) k.there

some_key : (n : ℕ) → (n == 1) ≡ true → n ≡ 0 → ⊥
some_key n one none = let is : n ≡ 1 = eqb-true n 1 one in absurd (omega (arith, is, none))

second_true : (a b : Bool) → b ≡ true → (a || b) ≡ true
second_true true b is = refl
second_true false b is = is

new_shape : (columns : List Def) (size : ℕ) → Passes size columns
    → All (λ (d : Def). IsOfLength d.kind) columns → All (λ (d : Def). IsName d.name) columns
    → IsNewShape (shape_of columns)
new_shape columns size p lengths names =
    let k = first_key 0 columns (some_key (count_by (λ d. d.key) columns) p.one_key) in
    record {
      most = omega (arith, length-map {A = Def} {B = Column} columns column_of, at_most MOST_COLUMNS (length columns) p.few);
      named = All-map (λ (c : Column). IsName c.name) column_of columns names;
      apart = apart (map column_of columns) (ap has_twice (named_so columns) ∙ p.apart);
      key = subst IsKeyColumn (sym (key_column columns k)) (second_true k.d.not_null k.d.key k.is_key);
      lengths = All-map (λ (c : Column). IsOfLength c.kind) column_of columns lengths;
      first = All-map (λ (c : Column). c.since ≡ 1) column_of columns (λ i d below. refl);
    }

fits_page : (columns : List Def) (size : ℕ) → Passes size columns → FitsPage size (shape_of columns)
fits_page columns size p =
    let k = first_key 0 columns (some_key (count_by (λ d. d.key) columns) p.one_key) in
    record {
      rows = at_most (size / 2) (row_len_of (map column_of columns)) p.rows;
      keys = subst (λ (n : ℕ). n ≤ size / 8) (k.len ∙ ap most_of (sym (key_column columns k)))
          (at_most (size / 8) (key_len columns) p.keys);
    }

other_name : (name : List ℕ) → same_name name catalog_name ≡ false → name ≢ catalog_name
other_name name other is =
    false≢true (sym other ∙ ap (λ (x : List ℕ). same_name x catalog_name) is ∙ same_name_itself catalog_name)

-- a statement that is planned is ready to create its table
pub planned_ready : {R P : Type 0} (m : Means R P) (r : R) (s : Plain) (name : List ℕ) (size : ℕ)
    (table : NewTable) → CreatesTable s → IsName name → same_name name catalog_name ≡ false
    → m.is_size r size ≡ true → IsPlanned s name size table → IsReadyToCreate m r table
planned_ready m r (Creation named columns) name size table creates is_name other pages planned =
    let p = passes named columns size planned.passes in
    record {
      named = subst IsName (sym planned.named) is_name;
      other = subst (λ (n : List ℕ). n ≢ catalog_name) (sym planned.named) (other_name name other);
      lawful = subst IsNewShape (sym planned.shaped) (new_shape columns size p creates planned.columns);
      pages = (size, pages, subst (FitsPage size) (sym planned.shaped) (fits_page columns size p));
    }
planned_ready m r s name size table creates is_name other pages planned = absurd creates
