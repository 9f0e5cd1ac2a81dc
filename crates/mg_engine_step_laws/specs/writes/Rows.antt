-- Each write of a record's versions takes an engine to the history with the entry.
use Rattle.mg_base.specs.Disk.{Meaning}
use Rattle.mg_base.specs.Image.{Image}
use Rattle.mg_base.specs.declared.numbers.RecId.{RecId}
use Rattle.mg_base.specs.declared.transaction.TxState.TheVariants.{Active, Committed, Dead}
use Rattle.mg_chain.specs.Writing.{GivesSpot, MakesRecord, Pushes, Replaces, TakesOut}
use Rattle.mg_tie_laws.specs.Rows.{ForEach}
use Rattle.mg_engine_step_laws.specs.writes.GoesOn.{HasGoneOn}
use Rattle.mg_engine_step_laws.specs.writes.Writes.{IsSilentAt}
use Rattle.mg_engine_step_laws.specs.writes.Knowing.{CodesRow, EntersWrite, HasEntries, MayWriteInto, WasChanged}
use Rattle.mg_image_overlay_laws.specs.tables.Growing.{IsTableOf}
use Rattle.mg_image.specs.Form.{Form, Row}
use Rattle.mg_image.specs.Records.{cells_of}
use Rattle.mg_image.specs.Tables.{stands_of, table_at}
use Rattle.mg_lasting_laws.specs.Crashes.{HoldsAcknowledged, LeavesSince}
use Rattle.mg_lasting_laws.specs.Lasting.{LastsOn}
use Rattle.mg_model.specs.Changes.{Cells}
use Rattle.mg_model.specs.History.{Entries, Entry as Event}
use Rattle.mg_model.specs.declared.opening.Opening.{Opening}
use Rattle.mg_model.specs.declared.table.Table.{Table}
use Rattle.mg_image_overlay_laws.specs.names.Whose.{IsTableFor}
use Rattle.mg_pool.specs.Batch.{Changed}
use Rattle.mg_pool.specs.Pool.{shown}
use Rattle.mg_pool.specs.declared.pool.Pool.{Pool}
use Rattle.mg_pool_overlay_laws.specs.Needs.{Asked, Sessions}
use Rattle.mg_tie_laws.specs.Changed.{fresh}
use Rattle.mg_engine_step_laws.specs.standing.Standing.{Standing, Stands}
use Rattle.mg_value.specs.declared.value.Value.{Value}
use Rattle.mg_version.specs.declared.cell.Version.{Version}
use Rattle.std.proofs.Common.{List, None, Option, Some, ℕ, ◌≡◌, ◌≢◌}

-- a version is pushed over a committed one: an update or a deletion, and a row that comes where a deletion is
abbrev pub PushesGoOn : Form → (D L : Type 0) → Meaning D → Type 0
PushesGoOn form D L m = (o : Opening) (h : Entries) (e : Event) (s new : Standing)
    (before after : Pool D L) (i j : Image) (batch : Changed) (asked : Asked) (session : Sessions)
    (stands : Stands form before.geometry.size o h s (Some (shown before.dirty i))) (t : ℕ)
    (name : List ℕ) (key : Value) (row : Option Cells) (rec : RecId) (v : Version) (stored : Row)
    (table : Table) → LastsOn m form o h before asked session
    → WasChanged m before after i j batch → (pushes : Pushes before i fresh batch rec v)
    → EntersWrite o h e s new asked t name key row table
    → MayWriteInto form before.geometry.size s.state (shown before.dirty i) stands.shows.layout
    stands.shows.reading t table
    → CodesRow form.coding table v stored t key row
    → HasEntries (shown before.dirty i) table rec v stored
    -- the record speaks for the key, and its newest version is committed
    → stands.shows.versions.speaker name key ≡ Some rec
    → s.state pushes.newest.tx.0 ≡ Committed
    → HasGoneOn m form before.geometry.size o h e new before after j asked session

-- a record gets its first version, at a free place of the table, where no version of the key counts
abbrev pub FirstsGoOn : Form → (D L : Type 0) → Meaning D → Type 0
FirstsGoOn form D L m = (o : Opening) (h : Entries) (e : Event) (s new : Standing)
    (before after : Pool D L) (i j : Image) (batch : Changed) (asked : Asked) (session : Sessions)
    (stands : Stands form before.geometry.size o h s (Some (shown before.dirty i))) (t : ℕ)
    (name : List ℕ) (key : Value) (row : Option Cells) (rec : RecId) (v : Version) (stored : Row)
    (table : Table) → LastsOn m form o h before asked session
    → WasChanged m before after i j batch
    → MakesRecord before i fresh batch table.pointer.0 rec v
    → EntersWrite o h e s new asked t name key row table
    → MayWriteInto form before.geometry.size s.state (shown before.dirty i) stands.shows.layout
    stands.shows.reading t table
    → CodesRow form.coding table v stored t key row
    → HasEntries (shown before.dirty i) table rec v stored
    → IsSilentAt form before.geometry.size o h s (shown before.dirty i) stands.shows name key
    -- the place, as `SpotsStay` gives it
    → table_at (stands_of stands.shows.layout) rec.page.0 ≡ Some table
    → cells_of (shown before.dirty i) rec ≡ None
    → HasGoneOn m form before.geometry.size o h e new before after j asked session

-- a transaction's own newest version is replaced, in its cell or moved to another one
abbrev pub ReplacementsGoOn : Form → (D L : Type 0) → Meaning D → Type 0
ReplacementsGoOn form D L m = (o : Opening) (h : Entries) (e : Event) (s new : Standing)
    (before after : Pool D L) (i j : Image) (batch : Changed) (asked : Asked) (session : Sessions)
    (stands : Stands form before.geometry.size o h s (Some (shown before.dirty i))) (t : ℕ)
    (name : List ℕ) (key : Value) (row : Option Cells) (rec : RecId) (v : Version) (stored : Row)
    (table : Table) → LastsOn m form o h before asked session
    → WasChanged m before after i j batch → Replaces before i fresh batch rec v
    → EntersWrite o h e s new asked t name key row table
    → MayWriteInto form before.geometry.size s.state (shown before.dirty i) stands.shows.layout
    stands.shows.reading t table
    → CodesRow form.coding table v stored t key row
    → HasEntries (shown before.dirty i) table rec v stored
    → stands.shows.versions.speaker name key ≡ Some rec
    → HasGoneOn m form before.geometry.size o h e new before after j asked session

-- ---- calls that add no entry

-- The engine stands for the same history, its cache lasts with it, and what a crash since then might have
-- left holds it.
pub record HasStayed {D L : Type 0} (m : Meaning D) (form : Form) (size : ℕ) (o : Opening) (h : Entries)
    (s : Standing) (before after : Pool D L) (j : Image) (asked : Asked) (session : Sessions) : Type 0 where
  pub stands : Stands form size o h s (Some (shown after.dirty j))
  pub lasts : LastsOn m form o h after asked session
  pub leaves : LeavesSince m before.disk after.disk (HoldsAcknowledged form before.dirty.size o h)

-- And a place is a free one of a table.
pub record HasPlace {D L : Type 0} (m : Meaning D) (form : Form) (size : ℕ) (o : Opening) (h : Entries)
    (s : Standing) (before after : Pool D L) (j : Image) (asked : Asked) (session : Sessions)
    (table : Table) (at : RecId) : Type 0 where
  pub stays : HasStayed m form size o h s before after j asked session
  pub its : IsTableOf stays.stands.shows.layout table
  pub placed : table_at (stands_of stays.stands.shows.layout) at.page.0 ≡ Some table
  pub blank : cells_of (shown after.dirty j) at ≡ None

-- a place for a record was given, in a table into which a transaction may write
abbrev pub SpotsStay : Form → (D L : Type 0) → Meaning D → Type 0
SpotsStay form D L m = (o : Opening) (h : Entries) (s : Standing) (before after : Pool D L) (i j : Image)
    (batch : Changed) (asked : Asked) (session : Sessions)
    (stands : Stands form before.geometry.size o h s (Some (shown before.dirty i))) (t : ℕ)
    (table : Table) (at : RecId) → LastsOn m form o h before asked session
    → WasChanged m before after i j batch → GivesSpot before i fresh batch table.pointer.0 at
    → s.state t ≡ Active → IsTableOf stands.shows.layout table
    → IsTableFor form before.geometry.size t s.state (shown before.dirty i) table
    → HasPlace m form before.geometry.size o h s before after j asked session table at

-- the newest version of a record, which is a dead transaction's, was taken out; the table is one that stands
-- whichever transactions count
abbrev pub DeadsGo : Form → (D L : Type 0) → Meaning D → Type 0
DeadsGo form D L m = (o : Opening) (h : Entries) (s : Standing) (before after : Pool D L) (i j : Image)
    (batch : Changed) (asked : Asked) (session : Sessions)
    (stands : Stands form before.geometry.size o h s (Some (shown before.dirty i))) (t : ℕ)
    (table : Table) (rec : RecId) → LastsOn m form o h before asked session
    → WasChanged m before after i j batch → (takes : TakesOut before i fresh batch rec)
    → s.state t ≡ Active → s.state takes.was.tx.0 ≡ Dead
    → ForEach form before.geometry.size s.state (shown before.dirty i)
    (λ state layout r. IsTableOf layout table)
    → table ≢ stands.shows.layout.catalog.table
    → table_at (stands_of stands.shows.layout) rec.page.0 ≡ Some table
    → HasStayed m form before.geometry.size o h s before after j asked session
