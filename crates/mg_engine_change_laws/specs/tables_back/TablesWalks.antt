-- The walks of all others go on where the rows of tables are taken out of the catalog.
use Rattle.std.specs.Prelude.{◌≡◌, ◌≢◌, ℕ, Bool, false, List, Option}
use Rattle.mg_value.specs.declared.value.Value.{Value}
use Rattle.mg_model.specs.declared.change.Change.{Change}
use Rattle.mg_model.specs.declared.opening.Opening.{Opening}
use Rattle.mg_model.specs.declared.table.Table.{Table}
use Rattle.mg_model.specs.Catalog.{catalog_name, table_key}
use Rattle.mg_model.specs.Changes.{KeyedRows}
use Rattle.mg_model.specs.History.{Entries, Entry}
use Rattle.mg_model.specs.Openings.{everyone}
use Rattle.mg_image.specs.Form.{Pages, packed_form}
use Rattle.mg_image.specs.Records.{Reading}
use Rattle.mg_image.specs.Sound.{IsSoundBy}
use Rattle.mg_image.specs.Tables.{Layout}
use Rattle.mg_overlay_laws.specs.Overlays.{left_state}
use Rattle.mg_engine_step_laws.specs.standing.Standing.{Standing}
use Rattle.mg_engine_step_laws.specs.reads.Walking.{AreToCome, WalkPlace}
use Rattle.mg_engine_step_laws.specs.tables_back.LeftShown.{TakesTables}
use Rattle.mg_engine_change_laws.specs.keys.BackWalks.{WalksBeside}

-- The tables that they walk over stay, and they have taken no version of the one that takes back.
abbrev pub TablesWalksGoOn : Type 0
TablesWalksGoOn = (size : ℕ) (o : Opening) (h : Entries) (e : Entry) (t u : ℕ) (left : List Change) (s new : Standing)
    (a : Layout) (r : Reading) (pages later : Pages) (gone : Value → Bool)
    → IsSoundBy packed_form size (left_state everyone s.state) pages a r
    → TakesTables packed_form size o h e t left s a r pages later gone → WalksBeside s new t u
    → ((v : ℕ) → new.state v ≡ s.state v) → (table : Table)
    → (table.name ≢ catalog_name → gone (table_key table.name) ≡ false) → (after : Option WalkPlace) (rows : KeyedRows)
    → AreToCome size s pages u table after rows → AreToCome size new later u table after rows
