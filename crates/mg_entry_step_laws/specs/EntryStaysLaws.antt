-- An entry that is laid leaves an engine with its history.
use Rattle.std.proofs.Common.{◌∙◌, refl, ℕ, Some}
use Rattle.mg_base.specs.Disk.{Meaning}
use Rattle.mg_base.specs.Image.{Image}
use Rattle.mg_engine_step_laws.specs.standing.BareLaws.{bare_grown}
use Rattle.mg_engine_step_laws.specs.writes.Batches.{RowsLastStill}
use Rattle.mg_engine_step_laws.specs.writes.Caches.{kept_now, row_changed}
use Rattle.mg_engine_step_laws.specs.writes.Knowing.{WasChanged}
use Rattle.mg_engine_step_laws.specs.writes.Rows.{HasStayed}
use Rattle.mg_engine_step_laws.specs.writes.SpotLaws.{versions_on}
use Rattle.mg_engine_step_laws.specs.standing.Standing.{ShowsHistory, Standing, Stands}
use Rattle.mg_engine_step_laws.specs.writes.WritesLaws.{finds_on}
use Rattle.mg_entries.specs.Entries.{PutsEntry}
use Rattle.mg_entry_overlay_laws.specs.Entered.{ShowsEntries}
use Rattle.mg_entry_overlay_laws.specs.Laws.{EntriesShow}
use Rattle.mg_entry_tie_laws.specs.IndexPlaces.{HasRoot}
use Rattle.mg_entry_tie_laws.specs.Laws.{InsertionsKeep, InsertionsLay, TablesHaveIndexes}
use Rattle.mg_image.specs.Form.{Form, Pages}
use Rattle.mg_image_overlay_laws.specs.tables.Growing.{IsTableOf}
use Rattle.mg_image_overlay_laws.specs.names.Whose.{IsTableFor}
use Rattle.mg_lasting_laws.specs.Crashes.{HoldsAcknowledged, LeavesSince}
use Rattle.mg_lasting_laws.specs.Lasting.{LastsOn}
use Rattle.mg_model.specs.History.{Entries}
use Rattle.mg_model.specs.Laws.{OpeningsBegin}
use Rattle.mg_model.specs.Openings.{everyone}
use Rattle.mg_model.specs.declared.opening.Opening.{Opening}
use Rattle.mg_model.specs.declared.table.Table.{Table}
use Rattle.mg_node.specs.declared.entry.Entry.{Entry}
use Rattle.mg_overlay_laws.specs.Overlays.{left_state}
use Rattle.mg_pool.specs.Batch.{Changed}
use Rattle.mg_pool.specs.Pool.{shown}
use Rattle.mg_pool.specs.declared.pool.Pool.{Pool}
use Rattle.mg_pool_overlay_laws.specs.Needs.{Asked, Sessions}
use Rattle.mg_tie_laws.specs.Changed.{KeptIn, fresh}
use Rattle.mg_entry_step_laws.specs.EntryBatchLaws.{has_now, kept_then, shows_entries}
use Rattle.mg_entry_step_laws.specs.EntryStays.{EntriesStay, HasEntered}
use Rattle.mg_key_entry_laws.specs.KeptEntriesLaws.{entries_keep_found}

-- ---- the law

module _ (form : Form) (begins : OpeningsBegin) (lay : InsertionsLay form) (keep : InsertionsKeep form)
    (indexes : TablesHaveIndexes form) (show : EntriesShow form) {D L : Type 0} (m : Meaning D)
    (last : RowsLastStill D L m form) (o : Opening) (h : Entries) (s : Standing) (before after : Pool D L) (i j : Image)
    (batch : Changed) (asked : Asked) (session : Sessions)
    (stands : Stands form before.geometry.size o h s (Some (shown before.dirty i))) (t : ℕ) (table : Table) (root : ℕ)
    (e : Entry) (lasts : LastsOn m form o h before asked session) (was : WasChanged m before after i j batch)
    (puts : PutsEntry before i fresh batch root e) (its : IsTableOf stands.shows.layout table)
    (has : HasRoot table.indexes root)
    (whose : IsTableFor form before.geometry.size t s.state (shown before.dirty i) table) where
  abbrev size : ℕ
  size = before.geometry.size

  abbrev pool : Pages
  pool = shown before.dirty i

  abbrev shows : ShowsHistory form size o h s pool
  shows = stands.shows

  shows_now : ShowsEntries form size (left_state everyone s.state) pool (shown after.dirty j) shows.layout shows.reading
  shows_now = shows_entries form lay keep indexes show m s before after i j batch asked session shows.layout shows.reading
      shows.sound t table root e was puts its has whose

  kept : KeptIn form size o h s.state asked session after j
  kept = kept_then form lay keep indexes show m s before after i j batch asked session shows.layout shows.reading
      shows.sound t table root e was puts its has whose o h
      (kept_now m form o h s before after i j batch asked session stands.memory was lasts)

  cache : LastsOn m form o h after asked session
      × LeavesSince m before.disk after.disk (HoldsAcknowledged form before.dirty.size o h)
  cache = last o h before after i j batch asked session (begins o stands.opening) stands.legal lasts
      (row_changed m form o h s before after i j batch asked session stands.memory was lasts h shows_now.bits kept)

  -- ---- so

  stays : HasStayed m form size o h s before after j asked session
  stays = record {
    stands = record {
      opening = stands.opening;
      legal = stands.legal;
      memory = stands.memory;
      shows = record {
        layout = shows_now.layout;
        reading = shows.reading;
        sound = shows_now.sound;
        next = shows_now.bits.next ∙ shows.next;
        versions = versions_on form size o h s pool (shown after.dirty j) shows shows_now.layout shows_now.grown;
        tables = λ u is. finds_on o h s shows.layout shows_now.layout shows.reading u shows_now.grown
            (shows.tables u is);
        found = entries_keep_found form size (left_state everyone s.state) pool (shown after.dirty j) shows.layout
            shows.reading shows_now s.state s.live shows.found;
        bare = bare_grown shows.layout shows_now.layout shows.reading shows_now.grown shows.bare;
      };
    };
    lasts = cache.0;
    leaves = cache.1;
  }

  pub entry_stays : HasEntered m form size o h s before after i j asked session shows.layout shows.reading root e
  unfolding shows_now stays
  entry_stays = record {
    shows = shows_now;
    stays = stays;
    layout = refl;
    reading = refl;
    has = has_now form lay keep indexes show m s before after i j batch asked session shows.layout shows.reading
        shows.sound t table root e was puts its has whose;
  }

pub entries_stay : (form : Form) → OpeningsBegin → InsertionsLay form → InsertionsKeep form → TablesHaveIndexes form
    → EntriesShow form → (D L : Type 0) (m : Meaning D) → RowsLastStill D L m form → EntriesStay form D L m
entries_stay form begins lay keep indexes show D L m last o h s before after i j batch asked session stands t table root
    e lasts was puts its has whose = entry_stays form begins lay keep indexes show m last o h s before after i j batch
    asked session stands t table root e lasts was puts its has whose
