-- An entry is laid in an index, and an engine stands for the history for which it stood.
use Rattle.std.specs.Prelude.{◌≡◌, ℕ, Some}
use Rattle.mg_base.specs.Disk.{Meaning}
use Rattle.mg_base.specs.Image.{Image}
use Rattle.mg_engine_step_laws.specs.writes.Knowing.{WasChanged}
use Rattle.mg_engine_step_laws.specs.writes.Rows.{HasStayed}
use Rattle.mg_engine_step_laws.specs.standing.Standing.{Standing, Stands}
use Rattle.mg_entries.specs.Entries.{PutsEntry}
use Rattle.mg_entry_overlay_laws.specs.Entered.{ShowsEntries}
use Rattle.mg_entry_tie_laws.specs.IndexPlaces.{HasRoot}
use Rattle.mg_image.specs.Form.{Form}
use Rattle.mg_image.specs.Indexes.{Finds}
use Rattle.mg_image.specs.Records.{Reading}
use Rattle.mg_image.specs.Tables.{Layout}
use Rattle.mg_image_overlay_laws.specs.tables.Growing.{IsTableOf}
use Rattle.mg_image_overlay_laws.specs.names.Whose.{IsTableFor}
use Rattle.mg_lasting_laws.specs.Lasting.{LastsOn}
use Rattle.mg_model.specs.History.{Entries}
use Rattle.mg_model.specs.Openings.{everyone}
use Rattle.mg_model.specs.declared.opening.Opening.{Opening}
use Rattle.mg_model.specs.declared.table.Table.{Table}
use Rattle.mg_node.specs.declared.entry.Entry.{Entry}
use Rattle.mg_overlay_laws.specs.Overlays.{left_state}
use Rattle.mg_pool.specs.Batch.{Changed}
use Rattle.mg_pool.specs.Pool.{shown}
use Rattle.mg_pool.specs.declared.pool.Pool.{Pool}
use Rattle.mg_pool_overlay_laws.specs.Needs.{Asked, Sessions}
use Rattle.mg_tie_laws.specs.Changed.{fresh}

-- The engine stands for the history, its pages show the records that they showed by a layout with other trees, and the
-- index finds the entry.
pub record HasEntered {D L : Type 0} (m : Meaning D) (form : Form) (size : ℕ) (o : Opening) (h : Entries)
    (s : Standing) (before after : Pool D L) (i j : Image) (asked : Asked) (session : Sessions) (a : Layout)
    (r : Reading) (root : ℕ) (e : Entry) : Type 0 where
  pub shows : ShowsEntries form size (left_state everyone s.state) (shown before.dirty i) (shown after.dirty j) a r
  pub stays : HasStayed m form size o h s before after j asked session
  pub layout : stays.stands.shows.layout ≡ shows.layout
  pub reading : stays.stands.shows.reading ≡ r
  pub has : Finds (shown after.dirty j) e root

-- an entry was laid in an index of a table that stands in each layout, or was made by one that counts as dead
abbrev pub EntriesStay : Form → (D L : Type 0) → Meaning D → Type 0
EntriesStay form D L m = (o : Opening) (h : Entries) (s : Standing) (before after : Pool D L) (i j : Image)
    (batch : Changed) (asked : Asked) (session : Sessions)
    (stands : Stands form before.geometry.size o h s (Some (shown before.dirty i))) (t : ℕ) (table : Table) (root : ℕ)
    (e : Entry) → LastsOn m form o h before asked session → WasChanged m before after i j batch
    → PutsEntry before i fresh batch root e → IsTableOf stands.shows.layout table → HasRoot table.indexes root
    → IsTableFor form before.geometry.size t s.state (shown before.dirty i) table
    → HasEntered m form before.geometry.size o h s before after i j asked session stands.shows.layout
    stands.shows.reading root e
