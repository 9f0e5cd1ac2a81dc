-- A transaction sees the tables that it saw, but for those that it has taken back.
use Rattle.std.proofs.Common.{◌≡◌, refl, sym, ap, ◌∙◌, subst, ◌+◌, ◌∷◌, ℕ, zero, suc, Bool, true, false, List, Option, None, Some}
use Rattle.std.specs.Prelude.{if◌then◌else◌, is_some}
use Rattle.mg_base.specs.declared.transaction.TxState.TheVariants.{Active}
use Rattle.mg_value.specs.declared.shape.Shape.{Shape}
use Rattle.mg_value.specs.declared.value.Value.{Value}
use Rattle.mg_engine_step_laws.specs.standing.Standing.{IsSeenAs}
use Rattle.mg_engine_step_laws.specs.standing.OwnChains.{change_there, row_of, row_there}
use Rattle.mg_grown_catalog_laws.specs.Grown.{BasesAreWithin, CatalogGrows, OwnRowsAreNew}
use Rattle.mg_image.specs.Histories.{newest_at}
use Rattle.mg_image.specs.Records as records
use Rattle.mg_model.specs.Answers.{catalog_of, is_open, told}
use Rattle.mg_model.specs.Catalog.{CatalogRows, catalog_name, column_key, columns_said, count_said, is_key_row, key_said, shape_said, table_key, with_column}
use Rattle.mg_model.specs.Changes.{Cells, has_change, row_at, same_name}
use Rattle.mg_model.specs.History.{Effect, Entries, Entry, TakesBack, effect_of}
use Rattle.mg_model.specs.Legal.{IsLegal, MayBegin}
use Rattle.mg_model.specs.Machine.{base, database, mode_of, own, state_of, takes_base, view}
use Rattle.mg_model.specs.RowLaws.{row_at-append}
use Rattle.mg_model.specs.declared.change.Change.{Change}
use Rattle.mg_model.specs.declared.change.Point.{Point}
use Rattle.mg_model.specs.declared.opening.Opening.{Opening}
use Rattle.mg_model.specs.declared.table.Table.{Table}
use Rattle.mg_records.specs.Reading.{shape_seen}
use Rattle.mg_engine_step_laws.specs.tables_back.LeftRecords.{newest_first}
use Rattle.mg_engine_step_laws.specs.tables_back.Outs.{is_among}
use Rattle.mg_engine_step_laws.specs.tables_back.ShapesLeft.{ShapesLeft, table_left}
use Rattle.mg_engine_step_laws.specs.tables_back.TablesBack.{AreRowsLeft}

-- ---- shapes

columns_same : (rows now : CatalogRows) (name : List ℕ) → ((place : ℕ) → now (column_key name place) ≡ rows (column_key name place))
    → (at count : ℕ) → columns_said now name at count ≡ columns_said rows name at count
columns_same rows now name same at zero = refl
columns_same rows now name same at (suc count) =
    ap (λ (row : Option Cells). with_column row (columns_said now name (at + 1) count)) (same at)
    ∙ ap (with_column (rows (column_key name at))) (columns_same rows now name same (at + 1) count)

key_same : (rows now : CatalogRows) (name : List ℕ) → ((place : ℕ) → now (column_key name place) ≡ rows (column_key name place))
    → (at count : ℕ) → key_said now name at count ≡ key_said rows name at count
key_same rows now name same at zero = refl
key_same rows now name same at (suc count) =
    ap (λ (row : Option Cells). if is_key_row row then at else key_said now name (at + 1) count) (same at)
    ∙ ap (λ (k : ℕ). if is_key_row (rows (column_key name at)) then at else k) (key_same rows now name same (at + 1) count)

shape_same : (rows now : CatalogRows) (name : List ℕ) → ((place : ℕ) → now (column_key name place) ≡ rows (column_key name place))
    → (row : Option Cells) → shape_said now name row ≡ shape_said rows name row
shape_same rows now name same None = refl
shape_same rows now name same (Some row) = λ i. Some (record {
  columns = columns_same rows now name same 0 (count_said row) i;
  key = key_same rows now name same 0 (count_said row) i;
})

-- ---- rows

-- what a transaction sees at a key, by its own newest change there and its base
seen_by : Option records.Change → Option Cells → Option Cells
seen_by None row = row
seen_by (Some c) row = row_of (Some c)

seen_is : (o : Opening) (h : Entries) (t : ℕ) (key : Value) → row_at (view o h t) catalog_name key
    ≡ seen_by (newest_at (own o h t) catalog_name key) (row_at (base o h t) catalog_name key)
unfolding seen_by
seen_is o h t key = row_at-append (own o h t) (base o h t) catalog_name key
    ∙ at (newest_at (own o h t) catalog_name key) refl
  where
    at : (x : Option records.Change) → newest_at (own o h t) catalog_name key ≡ x
        → (if has_change (own o h t) catalog_name key then row_at (own o h t) catalog_name key
        else row_at (base o h t) catalog_name key) ≡ seen_by x (row_at (base o h t) catalog_name key)
    at None is =
        let none : has_change (own o h t) catalog_name key ≡ false = change_there (own o h t) catalog_name key
        ∙ ap is_some is in rw none refl
    at (Some c) is =
        let some : has_change (own o h t) catalog_name key ≡ true = change_there (own o h t) catalog_name key
        ∙ ap is_some is in rw some (row_there (own o h t) catalog_name key ∙ ap row_of is)

module _ (within : BasesAreWithin) (fresh : OwnRowsAreNew) (o : Opening) (h : Entries) (e : Entry) (t : ℕ)
    (point : Point) (left : List Change) (keys : List Value) (tables : List ℕ → Option Table)
    (back : effect_of e ≡ TakesBack t point) (opening : MayBegin o) (legal : IsLegal o (e ∷ h)) (grows : CatalogGrows o h)
    (active : state_of o h t ≡ Active) (rows : AreRowsLeft o h e t left keys)
    (same : (key : Value) → is_among keys key ≡ false
    → newest_at (own o (e ∷ h) t) catalog_name key ≡ newest_at (own o h t) catalog_name key)
    (seen : (name : List ℕ) → IsSeenAs name (shape_seen o h t name) (tables name)) where
  base_same : base o (e ∷ h) t ≡ base o h t
  base_same = ap (λ (x : Effect). if takes_base x t (mode_of h t).snapshot then database o h else base o h t) back

  -- a row that stays
  row_same : (key : Value) → is_among keys key ≡ false
      → row_at (view o (e ∷ h) t) catalog_name key ≡ row_at (view o h t) catalog_name key
  row_same key off = seen_is o (e ∷ h) t key
      ∙ (ap (λ (x : Option records.Change). seen_by x (row_at (base o (e ∷ h) t) catalog_name key)) (same key off)
      ∙ (ap (λ (cs : List Change). seen_by (newest_at (own o h t) catalog_name key) (row_at cs catalog_name key)) base_same
      ∙ sym (seen_is o h t key)))

  -- one that goes
  row_none : (key : Value) → is_among keys key ≡ true → row_at (view o (e ∷ h) t) catalog_name key ≡ None
  unfolding seen_by
  row_none key lost = seen_is o (e ∷ h) t key
      ∙ (ap (λ (x : Option records.Change). seen_by x (row_at (base o (e ∷ h) t) catalog_name key)) (rows.none key lost)
      ∙ (ap (λ (cs : List Change). row_at cs catalog_name key) base_same
      ∙ at (row_at (base o h t) catalog_name key) refl))
    where
      at : (x : Option Cells) → row_at (base o h t) catalog_name key ≡ x → row_at (base o h t) catalog_name key ≡ None
      at None is = is
      at (Some row) is =
          let there : row_at (database o h) catalog_name key ≡ Some row = within o h t key row opening legal.1 grows is in
          let none : row_at (database o h) catalog_name key ≡ None =
          (fresh o h t key opening legal.1 grows (ap is_open active) (rows.made key lost)).1 in
          let both : None ≡ Some row = sym none ∙ there in absurd cc

  -- the rows of the columns of a table that stays
  columns_stay : (name : List ℕ) → is_among keys (table_key name) ≡ false → (place : ℕ)
      → row_at (view o (e ∷ h) t) catalog_name (column_key name place)
      ≡ row_at (view o h t) catalog_name (column_key name place)
  columns_stay name stays place = row_same (column_key name place) (at (newest_at left catalog_name (column_key name place)) refl)
    where
      at : (x : Option records.Change) → newest_at left catalog_name (column_key name place) ≡ x
          → is_among keys (column_key name place) ≡ false
      at None is = rows.keys_are (column_key name place) ∙ ap is_some is
      at (Some c) is = rows.whole.columns name place c
          (newest_first left (own o (e ∷ h) t) catalog_name (column_key name place) c is) ∙ stays

  pub shapes_left_by : (name : List ℕ) → IsSeenAs name (shape_seen o (e ∷ h) t name) (table_left (is_among keys) tables name)
  shapes_left_by name = at (same_name name catalog_name) refl (seen name) (is_among keys (table_key name)) refl
    where
      at : (b : Bool) → same_name name catalog_name ≡ b
          → IsSeenAs name (if b then None else shape_said (catalog_of (told o h) t) name
          (catalog_of (told o h) t (table_key name))) (tables name)
          → (c : Bool) → is_among keys (table_key name) ≡ c
          → IsSeenAs name (if b then None else shape_said (catalog_of (told o (e ∷ h)) t) name
          (catalog_of (told o (e ∷ h)) t (table_key name))) (if c then None else tables name)
      at true is was true lost = tt
      at true is was false stays = was
      at false is was true lost = subst (λ (row : Option Cells). IsSeenAs name
          (shape_said (catalog_of (told o (e ∷ h)) t) name row) None) (sym (row_none (table_key name) lost)) tt
      at false is was false stays = subst (λ (shape : Option Shape). IsSeenAs name shape (tables name))
          (sym (ap (shape_said (catalog_of (told o (e ∷ h)) t) name) (row_same (table_key name) stays)
          ∙ shape_same (catalog_of (told o h) t) (catalog_of (told o (e ∷ h)) t) name (columns_stay name stays)
          (catalog_of (told o h) t (table_key name)))) was

pub shapes_left : BasesAreWithin → OwnRowsAreNew → ShapesLeft
shapes_left within fresh o h e t point left keys tables back opening legal grows active rows same seen name =
    shapes_left_by within fresh o h e t point left keys tables back opening legal grows active rows same seen name
