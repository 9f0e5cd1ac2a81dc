-- A place that is given leaves the engine with the same history.
use Rattle.mg_base.specs.Disk.{Meaning}
use Rattle.mg_base.specs.Image.{Image}
use Rattle.mg_base.specs.declared.numbers.RecId.{RecId}
use Rattle.mg_base.specs.declared.transaction.TxState.{TxState}
use Rattle.mg_base.specs.declared.transaction.TxState.TheVariants.{Active}
use Rattle.mg_chain.specs.Writing.{GivesSpot}
use Rattle.mg_tie_laws.specs.SpotRowTies.{HasSpotFor, spot_row_gives_for}
use Rattle.mg_engine_step_laws.specs.standing.Bare.{IsBare}
use Rattle.mg_engine_step_laws.specs.standing.BareLaws.{bare_grown, bare_has_found}
use Rattle.mg_engine_step_laws.specs.writes.Batches.{RowsLastStill}
use Rattle.mg_engine_step_laws.specs.writes.Reads.{grown_bits, grown_to}
use Rattle.mg_engine_step_laws.specs.writes.WritesLaws.{finds_on}
use Rattle.mg_engine_step_laws.specs.writes.Caches.{kept_now, pool_now, row_changed}
use Rattle.mg_engine_step_laws.specs.writes.Knowing.{WasChanged}
use Rattle.mg_engine_step_laws.specs.writes.Rows.{HasPlace, SpotsStay}
use Rattle.mg_image_overlay_laws.specs.tables.Growing.{EndsAt, Grows, HasGrown, IsTableOf, TableEnd}
use Rattle.mg_image_overlay_laws.specs.tables.GrowingLaws.{StandsTo, table_of_end}
use Rattle.mg_tie_laws.specs.Batches.{within_self}
use Rattle.mg_tie_laws.specs.RoomTies.{GrowsSome, end_of, ends_there, room_grows}
use Rattle.mg_image.specs.Form.{Form, Pages}
use Rattle.mg_image.specs.ReadingLaws.{RowsAreOne}
use Rattle.mg_image.specs.RecordRules.{Facts}
use Rattle.mg_image.specs.Sound.{facts_by}
use Rattle.mg_image.specs.Tables.{Layout, stands_of, table_at}
use Rattle.mg_image_overlay_laws.specs.pages.Kinds.{HasNoSequences}
use Rattle.mg_lasting_laws.specs.Crashes.{HoldsAcknowledged, LeavesSince}
use Rattle.mg_lasting_laws.specs.Lasting.{LastsOn}
use Rattle.mg_model.specs.History.{Entries}
use Rattle.mg_model.specs.Laws.{OpeningsBegin}
use Rattle.mg_model.specs.Openings.{everyone}
use Rattle.mg_model.specs.declared.opening.Opening.{Opening}
use Rattle.mg_model.specs.declared.table.Table.{Table}
use Rattle.mg_overlay_laws.specs.Overlays.{left_state}
use Rattle.mg_image_overlay_laws.specs.names.Whose.{IsTableFor}
use Rattle.mg_pool.specs.Batch.{Changed, content_in, lists}
use Rattle.mg_pool.specs.Pool.{shown}
use Rattle.mg_pool.specs.declared.pool.Pool.{Pool}
use Rattle.mg_pool_overlay_laws.specs.Needs.{Asked, Sessions}
use Rattle.mg_seek.specs.Histories.{told_versions}
use Rattle.mg_space.specs.View.{viewed}
use Rattle.mg_tie_laws.specs.Changed.{changed_fresh, fresh}
use Rattle.mg_engine_step_laws.specs.standing.Standing.{ShowsHistory, Standing, Stands}
use Rattle.mg_engine_step_laws.specs.standing.Versions.{HaveVersions, SpeaksFor, SpeaksOrSilent}
use Rattle.mg_image_overlay_laws.specs.pages.DataKept.{KeepsBits}
use Rattle.mg_value.specs.declared.value.Value.{Value}
use Rattle.mg_version.specs.declared.cell.TheConstants.{ANCHOR_LEN}
use Rattle.std.proofs.Common.{List, None, Option, Some, [], ap, inl, inr, refl, subst, sym, ℕ, ◌∙◌, ◌≡◌, ◌⊎◌}

-- ---- records, where a table gets pages without any

module _ (form : Form) (size : ℕ) (o : Opening) (h : Entries) (s : Standing) (pages later : Pages)
    (shows : ShowsHistory form size o h s pages) (layout : Layout)
    (grown : HasGrown shows.layout layout shows.reading) where
  abbrev f : Facts
  f = facts_by (left_state everyone s.state) pages shows.layout

  abbrev g : Facts
  g = facts_by (left_state everyone s.state) later layout

  speaks_on : (name : List ℕ) (key : Value) (speaker : Option RecId)
      → SpeaksFor o h f shows.reading name key speaker → SpeaksFor o h g shows.reading name key speaker
  speaks_on name key None none = none
  speaks_on name key (Some p) (its, versions) = (
    record {
      table = its.table;
      of_table = grown.stays p.page.0 its.table its.of_table;
      named = its.named;
      some = its.some;
      keyed = its.keyed;
    },
    versions,
  )

  pub versions_on : HaveVersions o h g shows.reading
  versions_on = record {
    speaker = shows.versions.speaker;
    speaks = λ name key. speaks_on name key (shows.versions.speaker name key) (shows.versions.speaks name key);
    others = λ p table of. at p table (grown.new p.page.0 table of);
  }
    where
      at : (p : RecId) (table : Table)
          → (table_at (stands_of shows.layout) p.page.0 ≡ Some table)
          ⊎ ((q : RecId) → q.page.0 ≡ p.page.0 → shows.reading q ≡ [])
          → SpeaksOrSilent o h g shows.reading shows.versions.speaker p table
      at p table (inl was) = shows.versions.others p table was
      at p table (inr none) = inl (ap (told_versions g.state table) (none p refl))

  -- who speaks for a key is who did
  pub speaker_on : versions_on.speaker ≡ shows.versions.speaker
  unfolding versions_on
  speaker_on = refl

module _ (D L : Type 0) (m : Meaning D) (form : Form) (one : RowsAreOne form.coding)
    (none : HasNoSequences form) (begins : OpeningsBegin) (last : RowsLastStill D L m form) (o : Opening)
    (h : Entries) (s : Standing) (before after : Pool D L) (i j : Image) (batch : Changed)
    (asked : Asked) (session : Sessions)
    (stands : Stands form before.geometry.size o h s (Some (shown before.dirty i))) (t : ℕ)
    (table : Table) (place : RecId) (lasts : LastsOn m form o h before asked session)
    (was : WasChanged m before after i j batch) (gives : GivesSpot before i fresh batch table.pointer.0 place)
    (active : s.state t ≡ Active) (its : IsTableOf stands.shows.layout table)
    (whose : IsTableFor form before.geometry.size t s.state (shown before.dirty i) table) where
  abbrev size : ℕ
  size = before.geometry.size

  abbrev pool : Pages
  pool = shown before.dirty i

  abbrev state : ℕ → TxState
  state = left_state everyone s.state

  abbrev shows : ShowsHistory form size o h s pool
  shows = stands.shows

  pub spot : HasSpotFor form size after j asked session o h s.state table place
  spot = spot_row_gives_for form one none D L m before after i j batch asked session o h t s.state table place
      was.changes gives active whose
      (kept_now m form o h s before after i j batch asked session stands.memory was lasts)

  -- the table has grown
  abbrev end : TableEnd
  end = end_of gives.gives.pointers gives.gives.data_pages

  pub grown : GrowsSome form.in_primary size table.pointer.0 (lists batch.orders) (content_in batch.pages) pool end
      (viewed before i batch)
  grown = room_grows form before i state shows.layout shows.reading fresh batch table ANCHOR_LEN place.page
      (lists batch.orders) (content_in batch.pages) was.changes.geometry shows.sound its (within_self batch)
      gives.gives

  grows : Grows form.in_primary size table.pointer.0 (lists batch.orders) (content_in batch.pages) pool end
      (shown after.dirty j) grown.final
  grows = subst (λ (pages : Pages). Grows form.in_primary size table.pointer.0 (lists batch.orders)
      (content_in batch.pages) pool end pages grown.final)
      (sym (changed_fresh m before after i j batch asked session was.changes).pool) grown.grows

  ends : EndsAt shows.layout table end
  ends = ends_there form size state pool shows.layout shows.reading shows.sound table its gives.gives.pointers
      gives.gives.data_pages gives.gives.table

  pub to : StandsTo form size state pool (shown after.dirty j) shows.layout shows.reading table grown.final
  to = grown_to form one none size state pool (shown after.dirty j) shows.layout shows.reading shows.sound table
      (lists batch.orders) (content_in batch.pages) end grown.final grows ends

  pub bits : KeepsBits size pool (shown after.dirty j)
  bits = grown_bits form one none size state pool (shown after.dirty j) shows.layout shows.reading shows.sound
      table (lists batch.orders) (content_in batch.pages) end grown.final grows ends o h
      (pool_now m form o h s before after i j batch asked session stands.memory was lasts)

  cache : LastsOn m form o h after asked session
      × LeavesSince m before.disk after.disk (HoldsAcknowledged form before.dirty.size o h)
  cache = last o h before after i j batch asked session (begins o stands.opening) stands.legal lasts
      (row_changed m form o h s before after i j batch asked session stands.memory was lasts h bits spot.kept)

  bare_on : IsBare to.layout
  bare_on = bare_grown shows.layout to.layout shows.reading to.grown shows.bare

  pub spot_stays : HasPlace m form size o h s before after j asked session table place
  spot_stays = record {
    stays = record {
      stands = record {
        opening = stands.opening;
        legal = stands.legal;
        memory = stands.memory;
        shows = record {
          layout = to.layout;
          reading = shows.reading;
          sound = to.sound;
          next = bits.next ∙ shows.next;
          versions = versions_on form size o h s pool (shown after.dirty j) shows to.layout to.grown;
          tables = λ u is. finds_on o h s shows.layout to.layout shows.reading u to.grown (shows.tables u is);
          found = bare_has_found form size state (shown after.dirty j) to.layout shows.reading to.sound bare_on s.state
              s.live;
          bare = bare_on;
        };
      };
      lasts = cache.0;
      leaves = cache.1;
    };
    its = table_of_end to.layout table grown.final to.ends;
    placed = spot.placed everyone to.layout shows.reading to.sound (table_of_end to.layout table grown.final to.ends);
    blank = spot.blank;
  }

pub spots_stay : (form : Form) (D L : Type 0) (m : Meaning D) → RowsAreOne form.coding → HasNoSequences form
    → OpeningsBegin → RowsLastStill D L m form → SpotsStay form D L m
spots_stay form D L m one none begins last o h s before after i j batch asked session stands t table place lasts
    was gives active its whose =
    spot_stays D L m form one none begins last o h s before after i j batch asked session stands t table place
    lasts was gives active its whose
