-- A table whose rows stand under their keys has one row with a key at most: the one that is found where the key is
-- asked for.
use Rattle.std.proofs.Common.{◌≡◌, ◌==◌, ◌&&◌, ℕ, ℤ, Bool, true, false, List, [], ◌∷◌, Option, Some, None, Result, get_or, refl, sym, ap, ◌∙◌, subst, cond}
use Rattle.std.specs.Prelude.{codes, if◌then◌else◌}
use Rattle.std.specs.Cmp.Lexicographic.{same_text}
use Rattle.std.specs.Ordering.{is_eq, ordering_reverse}
use Rattle.std.specs.declared.cmp.Ordering.TheVariants.{Greater}
use Rattle.std.proofs.lemmas.Bool.{eqb-true}
use Rattle.std.proofs.lemmas.Cmp.{tied_itself}
use Rattle.mg_base.specs.declared.numbers.TxNo.{TxNo}
use Rattle.mg_value.specs.declared.shape.Column.{Column}
use Rattle.mg_value.specs.declared.shape.Shape.{Shape}
use Rattle.mg_value.specs.declared.value.Value.{Value}
use Rattle.mg_value.specs.declared.value.Value.TheVariants as values
use Rattle.mg_value.specs.OrderLaws.{value_cmp_total}
use Rattle.mg_value.specs.Values.{comparison, value_cmp}
use Rattle.mg_expr.specs.declared.expr.Sign.TheVariants.{Equal}
use Rattle.mg_expr.specs.Filters.{and_passes, passes}
use Rattle.mg_expr.specs.Meaning.{compared, truth_from}
use Rattle.mg_expr.specs.declared.fault.EvalFault.{EvalFault}
use Rattle.mg_expr.specs.Trees.{Tree, Compare, Integer, Name, Column as ColumnTree}
use Rattle.mg_model.specs.declared.opening.Opening.{Opening}
use Rattle.mg_model.specs.Changes.{Cells, KeyedRows, row_at, rows_of, same_key, same_name}
use Rattle.mg_model.specs.History.{Entries}
use Rattle.mg_model.specs.Machine.{view}
use Rattle.mg_model.specs.NewDatabase.{kv_name}
use Rattle.mg_model.specs.RowLaws.{IsAscending, IsBelow, row_in, row_in-rows_of, rows_of_ascend, same_from_same_key}
use Rattle.mg_plan.specs.Binding.{bound, column_or_name}
use Rattle.mg_plan.specs.Statements.{bound_plain}
use Rattle.mg_rows.specs.Found.{found, joined}
use Rattle.mg_rows.specs.Selecting.{Selects}
use Rattle.mg_transcript.specs.Shorthand.{value_of_key}
use Rattle.mg_transcript.specs.Selects.{Answers}
use Rattle.mg_transcript.specs.Statements.{bare, filter_of, rows_found}
use Rattle.mg_shorthand.specs.Keys.{are_key_and_value, found_of, has_key_and_value, with_key}

-- ---- the filter

as_passed : (b : Bool) → and_passes (Some (truth_from b)) (Some true) ≡ Some b
as_passed true = refl
as_passed false = refl

-- a row passes exactly where its first value is the number; it never faults
passes_where_same : (v : Value) (key : ℤ)
    → and_passes (Some (compared Equal (comparison v (values.Int key)))) (Some true)
    ≡ Some (same_key v (values.Int key))
passes_where_same values.Null key = refl
passes_where_same (values.Int n) key = as_passed (is_eq (value_cmp (values.Int n) (values.Int key)))
passes_where_same (values.Text text) key = as_passed (is_eq (value_cmp (values.Text text) (values.Int key)))

passes_is : (row : Cells) (key : ℤ)
    → passes (with_key key) row ≡ Some (same_key (get_or row 0 values.Null) (values.Int key))
passes_is row key = passes_where_same (get_or row 0 values.Null) key

-- ---- rows that stand under their first value

abbrev StandUnderFirst : KeyedRows → Type 0
StandUnderFirst [] = Unit {0}
StandUnderFirst (r ∷ rows) = (get_or r.1 0 values.Null ≡ r.0) × StandUnderFirst rows

none_below : (key : Value) (rows : KeyedRows) → IsBelow key rows → row_in rows key ≡ None
none_below key [] below = refl
none_below key (r ∷ rows) below =
    let back : value_cmp r.0 key ≡ Greater = value_cmp_total.antisymm r.0 key ∙ ap ordering_reverse below.0 in
    rw back (none_below key rows below.1)

-- the rows that pass are the one with the key, if there is one
finds_one : (rows : KeyedRows) (key : ℤ) → IsAscending rows → StandUnderFirst rows
    → found (Some (with_key key)) (bare rows) ≡ Some (found_of (row_in rows (values.Int key)))
finds_one [] key ascends first = refl
finds_one (r ∷ rows) key ascends first = at (same_key r.0 (values.Int key)) refl (finds_one rows key ascends.1 first.1)
  where
    passed : passes (with_key key) r.1 ≡ Some (same_key r.0 (values.Int key))
    passed = passes_is r.1 key ∙ ap (λ (v : Value). Some (same_key v (values.Int key))) first.0

    at : (b : Bool) → same_key r.0 (values.Int key) ≡ b
        → found (Some (with_key key)) (bare rows) ≡ Some (found_of (row_in rows (values.Int key)))
        → joined (passes (with_key key) r.1) r.1 (found (Some (with_key key)) (bare rows))
        ≡ Some (found_of (cond (same_key r.0 (values.Int key)) (Some r.1) (row_in rows (values.Int key))))
    at true is rest =
        let none : row_in rows (values.Int key) ≡ None =
        none_below (values.Int key) rows (subst (λ (v : Value). IsBelow v rows)
        (same_from_same_key r.0 (values.Int key) is) ascends.0) in
        let nothing : found (Some (with_key key)) (bare rows) ≡ Some [] =
        rest ∙ ap (λ (x : Option Cells). Some (found_of x)) none in
        ap (λ (p : Option Bool). joined p r.1 (found (Some (with_key key)) (bare rows))) (passed ∙ ap Some is)
        ∙ ap (λ (more : Option (List Cells)). joined (Some true) r.1 more) nothing
        ∙ sym (ap (λ (b : Bool). Some (found_of (cond b (Some r.1) (row_in rows (values.Int key))))) is)
    at false is rest =
        ap (λ (p : Option Bool). joined p r.1 (found (Some (with_key key)) (bare rows))) (passed ∙ ap Some is)
        ∙ rest
        ∙ sym (ap (λ (b : Bool). Some (found_of (cond b (Some r.1) (row_in rows (values.Int key))))) is)

same_key_self : (key : Value) → same_key key key ≡ true
same_key_self key = ap is_eq (tied_itself value_cmp_total key)

-- rows each of which has its key stand under it
under_first : (rows : KeyedRows) → IsAscending rows
    → ((key : Value) (row : Cells) → row_in rows key ≡ Some row → get_or row 0 values.Null ≡ key)
    → StandUnderFirst rows
under_first [] ascends own = tt
under_first (r ∷ rows) ascends own = (
  own r.0 r.1 (ap (λ (b : Bool). cond b (Some r.1) (row_in rows r.0)) (same_key_self r.0)),
  under_first rows ascends.1 later,
)
  where
    later : (key : Value) (row : Cells) → row_in rows key ≡ Some row → get_or row 0 values.Null ≡ key
    later key row is = at (same_key r.0 key) refl
      where
        at : (b : Bool) → same_key r.0 key ≡ b → get_or row 0 values.Null ≡ key
        at true same =
            let none : None ≡ Some row = sym (none_below key rows (subst (λ (v : Value). IsBelow v rows)
            (same_from_same_key r.0 key same) ascends.0)) ∙ is in absurd cc
        at false other = own key row (ap (λ (b : Bool). cond b (Some r.1) (row_in rows key)) other ∙ is)

-- ---- the table

both : (a b : Bool) → (a && b) ≡ true → (a ≡ true) × (b ≡ true)
both true true is = (refl, refl)
both true false is = absurd cc
both false b is = absurd cc

pub key_first : (shape : Shape) → has_key_and_value shape ≡ true → shape.key ≡ 0
key_first shape is = eqb-true shape.key 0 (both (shape.key == 0) (are_key_and_value shape.columns) is).0

-- its columns are found by their names
names_bound : (columns : List Column) → are_key_and_value columns ≡ true
    → (bound (Name (codes "K")) columns ≡ ColumnTree 0) × (bound (Name (codes "V")) columns ≡ ColumnTree 1)
names_bound [] is = absurd cc
names_bound (a ∷ []) is = absurd cc
names_bound (a ∷ b ∷ d ∷ more) is = absurd cc
names_bound (a ∷ b ∷ []) is = (
  ap (λ (here : Bool). column_or_name (if here then Some 0 else (if same_name b.name (codes "K") then Some 1 else None))
      (codes "K")) each.0,
  ap (λ (name : List ℕ). column_or_name (if same_name name (codes "V") then Some 0
      else (if same_name b.name (codes "V") then Some 1 else None)) (codes "V")) (same_text a.name (codes "K") (sym each.0))
      ∙ ap (λ (here : Bool). column_or_name (if here then Some 1 else None) (codes "V")) each.1,
)
  where
    each : (same_name a.name (codes "K") ≡ true) × (same_name b.name (codes "V") ≡ true)
    each = both (same_name a.name (codes "K")) (same_name b.name (codes "V")) is

columns_bound : (shape : Shape) → has_key_and_value shape ≡ true
    → (bound (Name (codes "K")) shape.columns ≡ ColumnTree 0) × (bound (Name (codes "V")) shape.columns ≡ ColumnTree 1)
columns_bound shape is =
    names_bound shape.columns (both (shape.key == 0) (are_key_and_value shape.columns) is).1

pub filter_bound : (shape : Shape) (key : ℤ) → has_key_and_value shape ≡ true
    → filter_of (bound_plain shape.columns (value_of_key key)) ≡ Some (with_key key)
filter_bound shape key is =
    ap (λ (t : Tree). Some (Compare t Equal (Integer key))) (columns_bound shape is).0

-- the rows that the statement finds are the one with the key, if there is one
pub found_with_key : (o : Opening) (h : Entries) (t : TxNo) (shape : Shape) (key : ℤ) (row : Option Cells)
    → has_key_and_value shape ≡ true
    → ((k : Value) (its : Cells) → row_at (view o h t.0) kv_name k ≡ Some its → get_or its shape.key values.Null ≡ k)
    → row ≡ row_at (view o h t.0) kv_name (values.Int key)
    → rows_found o h t shape (value_of_key key) ≡ Some (found_of row)
found_with_key o h t shape key row has own is =
    ap (λ (f : Option Tree). found f (bare (rows_of (view o h t.0) kv_name))) (filter_bound shape key has)
    ∙ finds_one (rows_of (view o h t.0) kv_name) key (rows_of_ascend (view o h t.0) kv_name)
    (under_first (rows_of (view o h t.0) kv_name) (rows_of_ascend (view o h t.0) kv_name)
    (λ k its there. ap (λ (n : ℕ). get_or its n values.Null) (sym (key_first shape has))
    ∙ own k its (sym (row_in-rows_of (view o h t.0) kv_name k) ∙ there)))
    ∙ ap (λ (x : Option Cells). Some (found_of x)) (row_in-rows_of (view o h t.0) kv_name (values.Int key) ∙ sym is)

-- what it answers of rows is what they have in the second column
pub answers_value : (shape : Shape) (key : ℤ) (rows : List Cells) (given : Result (List Cells) EvalFault)
    → has_key_and_value shape ≡ true → Selects (Some (ColumnTree 1 ∷ [])) None 0 rows given
    → Answers shape (value_of_key key) rows given
answers_value shape key rows given has so =
    subst (λ (t : Tree). Selects (Some (t ∷ [])) None shape.key rows given) (sym (columns_bound shape has).1)
    (subst (λ (n : ℕ). Selects (Some (ColumnTree 1 ∷ [])) None n rows given) (sym (key_first shape has)) so)
