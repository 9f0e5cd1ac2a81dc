-- A table that a transaction sees it sees still once it has taken a new base: rows of the catalog that are committed stay.
use Rattle.std.proofs.Common.{◌≡◌, ◌⊎◌, ◌&&◌, ◌++◌, ◌==◌, ◌∙◌, ap, refl, subst, sym, ℕ, Bool, true, false, not, List, ◌∷◌, Option, None, Some, cond}
use Rattle.std.specs.Prelude.{if◌then◌else◌}
use Rattle.std.proofs.lemmas.Bool.{eq-eqb, false≢true}
use Rattle.mg_base.specs.declared.numbers.TxNo.{TxNo}
use Rattle.mg_engine_step_laws.specs.standing.Standing.{IsSeenAs}
use Rattle.mg_grown_catalog_laws.specs.Grown.{BasesAreWithin, CatalogGrows}
use Rattle.mg_model.specs.Catalog.{CatalogRows, catalog_name, shape_said, table_key}
use Rattle.mg_model.specs.Changes.{Cells, has_change, row_at, same_name}
use Rattle.mg_model.specs.History.{Entries, entry}
use Rattle.mg_model.specs.Legal.{IsLegal, MayBegin}
use Rattle.mg_model.specs.Machine.{base, database, mode_of, own, view}
use Rattle.mg_model.specs.RowLaws.{row_at-append}
use Rattle.mg_model.specs.declared.answer.Answer.TheVariants.{Fine}
use Rattle.mg_model.specs.declared.change.Change.{Change}
use Rattle.mg_model.specs.declared.event.Event.TheVariants.{Look}
use Rattle.mg_model.specs.declared.opening.Opening.{Opening}
use Rattle.mg_model.specs.declared.table.Table.{Table}
use Rattle.mg_records.specs.Reading.{shape_named, shape_seen}
use Rattle.mg_value.specs.declared.shape.Shape.{Shape}
use Rattle.mg_value.specs.declared.value.Value.{Value}

-- ---- by rows

-- a table is seen by its row in the catalog
row_of_seen : (rows : CatalogRows) (name : List ℕ) (table : Table) → IsSeenAs name (shape_named rows name) (Some table)
    → (same_name name catalog_name ≡ false) × ((row : Cells) × (rows (table_key name) ≡ Some row))
row_of_seen rows name table seen = at (same_name name catalog_name) refl seen
  where
    by : (x : Option Cells) → rows (table_key name) ≡ x → IsSeenAs name (shape_said rows name x) (Some table)
        → (row : Cells) × (rows (table_key name) ≡ Some row)
    by None none is = absurd is
    by (Some row) there is = (row, there)

    at : (b : Bool) → same_name name catalog_name ≡ b
        → IsSeenAs name (if b then None else shape_said rows name (rows (table_key name))) (Some table)
        → (same_name name catalog_name ≡ false) × ((row : Cells) × (rows (table_key name) ≡ Some row))
    at true named is = absurd is
    at false other is = (other, by (rows (table_key name)) refl is)

-- by its row one is seen
seen_by_row : (rows : CatalogRows) (name : List ℕ) (row : Cells) (found : Option Table)
    → same_name name catalog_name ≡ false → rows (table_key name) ≡ Some row
    → IsSeenAs name (shape_named rows name) found → (y : Table) × ((found ≡ Some y) × (y.name ≡ name))
seen_by_row rows name row found other there seen = by found (subst (λ (x : Option Cells).
    IsSeenAs name (shape_said rows name x) found) there
    (subst (λ (b : Bool). IsSeenAs name (if b then None else shape_said rows name (rows (table_key name))) found) other
    seen))
  where
    by : (x : Option Table) → IsSeenAs name (shape_said rows name (Some row)) x
        → (y : Table) × ((x ≡ Some y) × (y.name ≡ name))
    by None is = absurd is
    by (Some y) is = (y, (refl, is.0))

-- ---- by a history

module _ (within : BasesAreWithin) (o : Opening) (h : Entries) (tx : TxNo) (begins : MayBegin o) (legal : IsLegal o h)
    (grows : CatalogGrows o h) (renews : (mode_of h tx.0).snapshot ≡ false) where
  new_base : base o (entry (Look tx) Fine ∷ h) tx.0 ≡ database o h
  new_base = at (tx.0 == tx.0) (eq-eqb tx.0 tx.0 refl) (mode_of h tx.0).snapshot renews
    where
      at : (c : Bool) → c ≡ true → (b : Bool) → b ≡ false
          → (if c && not b then database o h else base o h tx.0) ≡ database o h
      at true is false new = refl
      at true is true new = absurd (false≢true (sym new))
      at false is b new = absurd (false≢true is)

  -- a row that is seen is seen over what is committed
  row_over : (key : Value) (row : Cells) → row_at (view o h tx.0) catalog_name key ≡ Some row
      → row_at (own o h tx.0 ++ database o h) catalog_name key ≡ Some row
  row_over key row is = row_at-append (own o h tx.0) (database o h) catalog_name key
      ∙ at (has_change (own o h tx.0) catalog_name key)
      (sym (row_at-append (own o h tx.0) (base o h tx.0) catalog_name key) ∙ is)
    where
      at : (b : Bool)
          → cond b (row_at (own o h tx.0) catalog_name key) (row_at (base o h tx.0) catalog_name key) ≡ Some row
          → cond b (row_at (own o h tx.0) catalog_name key) (row_at (database o h) catalog_name key) ≡ Some row
      at true its = its
      at false there = within o h tx.0 key row begins legal grows there

  row_still : (key : Value) (row : Cells) → row_at (view o h tx.0) catalog_name key ≡ Some row
      → row_at (view o (entry (Look tx) Fine ∷ h) tx.0) catalog_name key ≡ Some row
  row_still key row is = ap (λ (cs : List Change). row_at (own o h tx.0 ++ cs) catalog_name key) new_base
      ∙ row_over key row is

  -- so a table of the name is seen still
  pub sees_still : (name : List ℕ) (table : Table) → IsSeenAs name (shape_seen o h tx.0 name) (Some table)
      → (found : Option Table) → IsSeenAs name (shape_seen o (entry (Look tx) Fine ∷ h) tx.0 name) found
      → (y : Table) × ((found ≡ Some y) × (y.name ≡ name))
  sees_still name table was found is =
      let it = row_of_seen (row_at (view o h tx.0) catalog_name) name table was in
      seen_by_row (row_at (view o (entry (Look tx) Fine ∷ h) tx.0) catalog_name) name it.1.0 found it.0
      (row_still (table_key name) it.1.0 it.1.1) is
