-- An entry that is laid while a transaction takes its changes back leaves what is still to be taken back.
use Rattle.std.proofs.Common.{◌∙◌, ◌∷◌, refl, sym, ℕ, List}
use Rattle.mg_base.specs.Disk.{Meaning}
use Rattle.mg_base.specs.Image.{Image}
use Rattle.mg_engine_step_laws.specs.backs.Again.{again}
use Rattle.mg_engine_step_laws.specs.standing.BareLaws.{bare_grown}
use Rattle.mg_engine_step_laws.specs.writes.Batches.{RowsLastStill}
use Rattle.mg_engine_step_laws.specs.writes.Knowing.{WasChanged}
use Rattle.mg_engine_step_laws.specs.backs.Midway.{GoesBack, IsMidway}
use Rattle.mg_engine_step_laws.specs.backs.MidwayLaws.{midway_on}
use Rattle.mg_engine_step_laws.specs.backs.Shown.{ShowsMidway}
use Rattle.mg_engine_step_laws.specs.standing.Standing.{Remembers, ShowsHistory, Standing}
use Rattle.mg_engine_step_laws.specs.writes.WritesLaws.{finds_on}
use Rattle.mg_entries.specs.Entries.{PutsEntry}
use Rattle.mg_entry_overlay_laws.specs.Entered.{ShowsEntries}
use Rattle.mg_entry_overlay_laws.specs.Laws.{EntriesShow}
use Rattle.mg_entry_tie_laws.specs.IndexPlaces.{HasRoot}
use Rattle.mg_entry_tie_laws.specs.Laws.{InsertionsKeep, InsertionsLay, TablesHaveIndexes}
use Rattle.mg_image.specs.Form.{Form, Pages}
use Rattle.mg_image_overlay_laws.specs.tables.Growing.{IsTableOf}
use Rattle.mg_image_overlay_laws.specs.names.Whose.{IsTableFor}
use Rattle.mg_model.specs.History.{Entries, Entry}
use Rattle.mg_model.specs.Legal.{IsLegal, MayBegin}
use Rattle.mg_model.specs.Openings.{everyone}
use Rattle.mg_model.specs.declared.change.Change.{Change}
use Rattle.mg_model.specs.declared.change.Point.{Point}
use Rattle.mg_model.specs.declared.opening.Opening.{Opening}
use Rattle.mg_model.specs.declared.table.Table.{Table}
use Rattle.mg_node.specs.declared.entry.Entry.{Entry as IndexEntry}
use Rattle.mg_overlay_laws.specs.Overlays.{left_state}
use Rattle.mg_pool.specs.Batch.{Changed}
use Rattle.mg_pool.specs.Pool.{shown}
use Rattle.mg_pool.specs.declared.pool.Pool.{Pool}
use Rattle.mg_pool_overlay_laws.specs.Needs.{Asked, Sessions}
use Rattle.mg_tie_laws.specs.Changed.{KeptIn, fresh}
use Rattle.mg_entry_step_laws.specs.EntryBatchLaws.{has_now, kept_then, shows_entries}
use Rattle.mg_entry_step_laws.specs.EntryMidway.{EntriesStayMidway, StaysMidway}

module _ (form : Form) (lay : InsertionsLay form) (keep : InsertionsKeep form) (indexes : TablesHaveIndexes form)
    (show : EntriesShow form) {D L : Type 0} (m : Meaning D) (last : RowsLastStill D L m form) (o : Opening) (h : Entries)
    (e : Entry) (point : Point) (s : Standing) (start before after : Pool D L) (begun : Pages)
    (first : ShowsHistory form before.geometry.size o h s begun) (i j : Image) (batch : Changed) (asked : Asked)
    (session : Sessions) (t : ℕ) (whole left : List Change) (table : Table) (root : ℕ) (x : IndexEntry)
    (opening : MayBegin o) (legal : IsLegal o h) (memory : Remembers o h s) (goes : GoesBack o h e point s asked t)
    (cache : IsMidway m form before.geometry.size o h e t left s start before i asked session)
    (shows : ShowsMidway form before.geometry.size o h e t whole left s begun first (shown before.dirty i))
    (was : WasChanged m before after i j batch) (puts : PutsEntry before i fresh batch root x)
    (its : IsTableOf shows.layout table) (has : HasRoot table.indexes root)
    (whose : IsTableFor form before.geometry.size t s.state (shown before.dirty i) table) where
  abbrev size : ℕ
  size = before.geometry.size

  shows_now : ShowsEntries form size (left_state everyone s.state) (shown before.dirty i) (shown after.dirty j)
      shows.layout shows.reading
  shows_now = shows_entries form lay keep indexes show m s before after i j batch asked session shows.layout
      shows.reading shows.sound t table root x was puts its has whose

  kept : KeptIn form size o (again t left (e ∷ h)) s.state asked session after j
  kept = kept_then form lay keep indexes show m s before after i j batch asked session shows.layout shows.reading
      shows.sound t table root x was puts its has whose o (again t left (e ∷ h)) cache.kept

  -- the records are as they were, and each page is the same table's
  pages_now : ShowsMidway form size o h e t whole left s begun first (shown after.dirty j)
  pages_now = record {
    layout = shows_now.layout;
    reading = shows.reading;
    sound = shows_now.sound;
    next = shows_now.bits.next ∙ shows.next;
    stays = λ p its_ there. shows_now.owners p.page.0 ∙ shows.stays p its_ there;
    new = λ p its_ there. shows.new p its_ (sym (shows_now.owners p.page.0) ∙ there);
    tables = λ u is. finds_on o h s shows.layout shows_now.layout shows.reading u shows_now.grown (shows.tables u is);
    bare = bare_grown shows.layout shows_now.layout shows.reading shows_now.grown shows.bare;
    each_record = shows.each_record;
    not_yet = shows.not_yet;
    done = shows.done;
  }

  pub stays_midway : StaysMidway m form before.geometry.size o h e t whole left s start before after begun first i j
      asked session shows root x
  unfolding shows_now pages_now
  stays_midway = record {
    entries = shows_now;
    cache = midway_on m form last o h e point s start before after i j batch asked session t left left opening legal
        memory goes cache was shows_now.bits kept;
    pages = pages_now;
    layout = refl;
    reading = refl;
    has = has_now form lay keep indexes show m s before after i j batch asked session shows.layout shows.reading
        shows.sound t table root x was puts its has whose;
  }

pub entries_stay_midway : (form : Form) → InsertionsLay form → InsertionsKeep form → TablesHaveIndexes form
    → EntriesShow form → (D L : Type 0) (m : Meaning D) → RowsLastStill D L m form → EntriesStayMidway form D L m
entries_stay_midway form lay keep indexes show D L m last o h e point s start before after begun first i j batch asked
    session t whole left table root x opening legal memory goes cache shows was puts its has whose = stays_midway form
    lay keep indexes show m last o h e point s start before after begun first i j batch asked session t whole left table
    root x opening legal memory goes cache shows was puts its has whose
