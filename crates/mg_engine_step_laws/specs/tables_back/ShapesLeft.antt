-- Which tables a transaction sees once it has taken back tables that it had made.
use Rattle.std.specs.Prelude.{◌≡◌, ◌∷◌, ℕ, Bool, false, List, Option, None, if◌then◌else◌}
use Rattle.mg_base.specs.declared.transaction.TxState.TheVariants.{Active}
use Rattle.mg_value.specs.declared.value.Value.{Value}
use Rattle.mg_engine_step_laws.specs.standing.Standing.{IsSeenAs}
use Rattle.mg_grown_catalog_laws.specs.Grown.{CatalogGrows}
use Rattle.mg_image.specs.Histories.{newest_at}
use Rattle.mg_model.specs.Catalog.{catalog_name, table_key}
use Rattle.mg_model.specs.History.{Entries, Entry, TakesBack, effect_of}
use Rattle.mg_model.specs.Legal.{IsLegal, MayBegin}
use Rattle.mg_model.specs.Machine.{own, state_of}
use Rattle.mg_model.specs.declared.change.Change.{Change}
use Rattle.mg_model.specs.declared.change.Point.{Point}
use Rattle.mg_model.specs.declared.opening.Opening.{Opening}
use Rattle.mg_model.specs.declared.table.Table.{Table}
use Rattle.mg_records.specs.Reading.{shape_seen}
use Rattle.mg_engine_step_laws.specs.tables_back.Outs.{is_among}
use Rattle.mg_engine_step_laws.specs.tables_back.TablesBack.{AreRowsLeft}

-- the table of a name, none where its row has gone
abbrev pub table_left : (Value → Bool) → (List ℕ → Option Table) → List ℕ → Option Table
table_left gone tables name = if gone (table_key name) then None else tables name

-- It sees the tables that it saw, but for those whose rows have gone.
abbrev pub ShapesLeft : Type 0
ShapesLeft = (o : Opening) (h : Entries) (e : Entry) (t : ℕ) (point : Point) (left : List Change) (keys : List Value)
    (tables : List ℕ → Option Table) → effect_of e ≡ TakesBack t point → MayBegin o → IsLegal o (e ∷ h)
    → CatalogGrows o h → state_of o h t ≡ Active → AreRowsLeft o h e t left keys
    → ((key : Value) → is_among keys key ≡ false
    → newest_at (own o (e ∷ h) t) catalog_name key ≡ newest_at (own o h t) catalog_name key)
    → ((name : List ℕ) → IsSeenAs name (shape_seen o h t name) (tables name)) → (name : List ℕ)
    → IsSeenAs name (shape_seen o (e ∷ h) t name) (table_left (is_among keys) tables name)
