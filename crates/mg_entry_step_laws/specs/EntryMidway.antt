-- An entry is laid while a transaction takes its changes back: no key more is taken back, and what is known of the cache
-- and of the pages goes on.
use Rattle.std.specs.Prelude.{◌≡◌, ℕ, List}
use Rattle.mg_base.specs.Disk.{Meaning}
use Rattle.mg_base.specs.Image.{Image}
use Rattle.mg_engine_step_laws.specs.writes.Knowing.{WasChanged}
use Rattle.mg_engine_step_laws.specs.backs.Midway.{GoesBack, IsMidway}
use Rattle.mg_engine_step_laws.specs.backs.Shown.{ShowsMidway}
use Rattle.mg_engine_step_laws.specs.standing.Standing.{Remembers, ShowsHistory, Standing}
use Rattle.mg_entries.specs.Entries.{PutsEntry}
use Rattle.mg_entry_overlay_laws.specs.Entered.{ShowsEntries}
use Rattle.mg_entry_tie_laws.specs.IndexPlaces.{HasRoot}
use Rattle.mg_image.specs.Form.{Form, Pages}
use Rattle.mg_image.specs.Indexes.{Finds}
use Rattle.mg_image_overlay_laws.specs.tables.Growing.{IsTableOf}
use Rattle.mg_image_overlay_laws.specs.names.Whose.{IsTableFor}
use Rattle.mg_model.specs.History.{Entries, Entry}
use Rattle.mg_model.specs.Legal.{IsLegal, MayBegin}
use Rattle.mg_model.specs.Openings.{everyone}
use Rattle.mg_model.specs.declared.change.Change.{Change}
use Rattle.mg_model.specs.declared.change.Point.{Point}
use Rattle.mg_model.specs.declared.opening.Opening.{Opening}
use Rattle.mg_model.specs.declared.table.Table.{Table}
use Rattle.mg_node.specs.declared.entry.Entry.{Entry as IndexEntry}
use Rattle.mg_overlay_laws.specs.Overlays.{left_state}
use Rattle.mg_pool.specs.Batch.{Changed}
use Rattle.mg_pool.specs.Pool.{shown}
use Rattle.mg_pool.specs.declared.pool.Pool.{Pool}
use Rattle.mg_pool_overlay_laws.specs.Needs.{Asked, Sessions}
use Rattle.mg_tie_laws.specs.Changed.{fresh}

-- The same changes are still to be taken back, over pages that differ in trees alone, and the index finds the entry.
pub record StaysMidway {D L : Type 0} (m : Meaning D) (form : Form) (size : ℕ) (o : Opening) (h : Entries) (e : Entry)
    (t : ℕ) (whole left : List Change) (s : Standing) (start before after : Pool D L) (begun : Pages)
    (first : ShowsHistory form size o h s begun) (i j : Image) (asked : Asked) (session : Sessions)
    (was : ShowsMidway form size o h e t whole left s begun first (shown before.dirty i)) (root : ℕ) (x : IndexEntry)
    : Type 0 where
  pub entries : ShowsEntries form size (left_state everyone s.state) (shown before.dirty i) (shown after.dirty j)
      was.layout was.reading
  pub cache : IsMidway m form size o h e t left s start after j asked session
  pub pages : ShowsMidway form size o h e t whole left s begun first (shown after.dirty j)
  pub layout : pages.layout ≡ entries.layout
  pub reading : pages.reading ≡ was.reading
  pub has : Finds (shown after.dirty j) x root

-- an entry was laid in an index of a table that stands in each layout, or was made by one that counts as dead
abbrev pub EntriesStayMidway : Form → (D L : Type 0) → Meaning D → Type 0
EntriesStayMidway form D L m = (o : Opening) (h : Entries) (e : Entry) (point : Point) (s : Standing)
    (start before after : Pool D L) (begun : Pages) (first : ShowsHistory form before.geometry.size o h s begun)
    (i j : Image) (batch : Changed) (asked : Asked) (session : Sessions) (t : ℕ) (whole left : List Change)
    (table : Table) (root : ℕ) (x : IndexEntry) → MayBegin o → IsLegal o h → Remembers o h s
    → GoesBack o h e point s asked t
    → IsMidway m form before.geometry.size o h e t left s start before i asked session
    → (was : ShowsMidway form before.geometry.size o h e t whole left s begun first (shown before.dirty i))
    → WasChanged m before after i j batch → PutsEntry before i fresh batch root x → IsTableOf was.layout table
    → HasRoot table.indexes root → IsTableFor form before.geometry.size t s.state (shown before.dirty i) table
    → StaysMidway m form before.geometry.size o h e t whole left s start before after begun first i j asked session was
    root x
