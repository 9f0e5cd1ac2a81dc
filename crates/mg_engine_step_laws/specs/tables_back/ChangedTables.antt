-- Which tables a transaction has changed.
use Rattle.std.specs.Prelude.{◌≡◌, ◌≢◌, ◌⊎◌, ◌∷◌, ℕ, true, false, List, IsSome}
use Rattle.mg_base.specs.declared.transaction.TxState.TheVariants.{Active}
use Rattle.mg_value.specs.declared.value.Value.{Value}
use Rattle.mg_grown_catalog_laws.specs.Grown.{CatalogGrows}
use Rattle.mg_model.specs.declared.change.Point.{Point}
use Rattle.mg_model.specs.declared.opening.Opening.{Opening}
use Rattle.mg_model.specs.Catalog.{catalog_name, table_key}
use Rattle.mg_model.specs.Changes.{has_change, row_at}
use Rattle.mg_model.specs.History.{Entries, Entry, TakesBack, effect_of}
use Rattle.mg_model.specs.Legal.{IsLegal, MayBegin}
use Rattle.mg_model.specs.Machine.{database, own, state_of}

-- those of which it has made the row itself, or which the database has
abbrev pub ChangedAreThere : Type 0
ChangedAreThere = (o : Opening) (h : Entries) (t : ℕ) (name : List ℕ) (key : Value) → MayBegin o → IsLegal o h
    → CatalogGrows o h → state_of o h t ≡ Active → name ≢ catalog_name → has_change (own o h t) name key ≡ true
    → (has_change (own o h t) catalog_name (table_key name) ≡ true)
    ⊎ IsSome (row_at (database o h) catalog_name (table_key name))

-- So of a table whose row it has taken back, made by itself, it has no change left.
abbrev pub NoneOfGone : Type 0
NoneOfGone = (o : Opening) (h : Entries) (e : Entry) (t : ℕ) (point : Point) (name : List ℕ) (key : Value)
    → effect_of e ≡ TakesBack t point → MayBegin o → IsLegal o (e ∷ h) → CatalogGrows o h → state_of o h t ≡ Active
    → name ≢ catalog_name → has_change (own o h t) catalog_name (table_key name) ≡ true
    → has_change (own o (e ∷ h) t) catalog_name (table_key name) ≡ false
    → has_change (own o (e ∷ h) t) name key ≡ false
