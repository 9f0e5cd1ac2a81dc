-- The tables that a transaction keeps, since it has written into them, are those that stand on the pages.
use Rattle.std.specs.Prelude.{◌≡◌, ℕ, true, List, Some}
use Rattle.mg_engine_meaning_laws.specs.Standings.{KeepsWritten}
use Rattle.mg_engine_step_laws.specs.standing.Known.{IsShown}
use Rattle.mg_engine_step_laws.specs.standing.Standing.{FindsTables, Standing}
use Rattle.mg_image.specs.Form.{Pages, packed_form}
use Rattle.mg_image.specs.Records.{Reading}
use Rattle.mg_image.specs.Sound.{IsSoundBy}
use Rattle.mg_image.specs.Tables.{Layout}
use Rattle.mg_model.specs.Changes.{has_change}
use Rattle.mg_model.specs.History.{Entries}
use Rattle.mg_model.specs.Machine.{own}
use Rattle.mg_model.specs.Openings.{everyone}
use Rattle.mg_model.specs.declared.opening.Opening.{Opening}
use Rattle.mg_model.specs.declared.table.Table.{Table}
use Rattle.mg_overlay_laws.specs.Overlays.{left_state}
use Rattle.mg_value.specs.declared.value.Value.{Value}
use Rattle.mg_works.specs.Works.{Working, written_to}

-- a table that is kept stands on the pages, but for its indexes
abbrev pub KeptTablesStand : Type 0
KeptTablesStand = (o : Opening) (h : Entries) (s : Standing) (t : ℕ) (layout : Layout) (catalog : ℕ)
    (works : List Working) → FindsTables o h s layout t → KeepsWritten catalog works s.table → (number : ℕ)
    (table : Table) → written_to works t number ≡ Some table → IsShown layout table

-- under the number by which the transaction knows a table that it has changed, the table of that name is kept
abbrev pub KeptTablesAreNamed : Type 0
KeptTablesAreNamed = (size : ℕ) (o : Opening) (h : Entries) (s : Standing) (t : ℕ) (pages : Pages) (layout : Layout)
    (reading : Reading) (catalog : ℕ) (works : List Working)
    → IsSoundBy packed_form size (left_state everyone s.state) pages layout reading → FindsTables o h s layout t
    → KeepsWritten catalog works s.table → (name : List ℕ) (key : Value) → has_change (own o h t) name key ≡ true
    → (table : Table) → written_to works t (s.number t name) ≡ Some table → table.name ≡ name
