-- An engine that has read all that a write asks for lays the version without damage: its pages show a sound image, and so do
-- those that the first batch of two leaves, and each entry.
use Rattle.mg_engine_meaning_laws.specs.DirectoryLaws.{knows_key}
use Rattle.mg_base.specs.Disk.{Meaning}
use Rattle.mg_base.specs.Image.{Image}
use Rattle.mg_base.specs.declared.damage.Damaged.{Damaged}
use Rattle.mg_base.specs.declared.geometry.Geometry.{Geometry}
use Rattle.mg_base.specs.declared.numbers.PageNo.{PageNo}
use Rattle.mg_base.specs.declared.numbers.RecId.{RecId}
use Rattle.mg_base.specs.declared.numbers.TxNo.{TxNo}
use Rattle.mg_base.specs.declared.transaction.TxState.{TxState}
use Rattle.mg_chain.specs.Writing.{GivesSpot}
use Rattle.mg_core.specs.Cores.{IsCore}
use Rattle.mg_core.specs.Obstacles.{IsOfRecord}
use Rattle.mg_core.specs.Putting.{StandsBefore}
use Rattle.mg_core.specs.Writing.{HasBegun, IsFree, IsOfKey, KnowsKey}
use Rattle.mg_core.specs.declared.parts.Core.{Core}
use Rattle.mg_engine_change_laws.specs.rows.Enters.{there}
use Rattle.mg_engine_change_laws.specs.rows.Laid.{HasNoted}
use Rattle.mg_engine_change_laws.specs.memory.Notes.{HasRead}
use Rattle.mg_engine_change_laws.specs.rows.RefusalLaws.{begun_read, found_read, free_answer, free_read, passed_read}
use Rattle.mg_engine_change_laws.specs.rows.Refusals.{IsReady}
use Rattle.mg_engine_change_laws.specs.rows.StopLaws.{reads_on, told_before}
use Rattle.mg_engine_meaning_laws.specs.Meaning.{Places}
use Rattle.mg_engine_meaning_laws.specs.Standings.{ShowsIt, StandsFor, asked_in, sessions_in, standing_of}
use Rattle.mg_no_damage_laws.proofs.FitLemmas.{keys_fit, rows_fit, stored_short, write_keys_short}
use Rattle.mg_no_damage_laws.proofs.SpokenLemmas.{IsOwn, goes_to, newest_found, record_of, replaced_own, same_number, spoken_record}
use Rattle.mg_no_damage_laws.proofs.WriteParts.{WriteParts}
use Rattle.mg_no_damage_laws.specs.StageLaws.{none_passed}
use Rattle.mg_engine_step_laws.specs.standing.Known.{IsShown}
use Rattle.mg_heap.specs.Apart.{HasPlace}
use Rattle.mg_model.specs.Answers.{answer}
use Rattle.mg_model.specs.History.{Entries}
use Rattle.mg_model.specs.Openings.{everyone}
use Rattle.mg_model.specs.declared.answer.Answer.TheVariants.{Fine}
use Rattle.mg_model.specs.declared.opening.Opening.{Opening}
use Rattle.mg_model.specs.declared.table.Table.{Table}
use Rattle.mg_no_damage_laws.specs.Sees.{no_batch}
use Rattle.mg_no_damage_laws.specs.Batches.{ShowsSound}
use Rattle.mg_no_damage_laws.specs.Writes.{IsRecordOf}
use Rattle.mg_overlay_laws.specs.Overlays.{left_state}
use Rattle.mg_pool.specs.Dirty.{DirtyPages}
use Rattle.mg_pool.specs.declared.pool.Pool.{Pool}
use Rattle.mg_records.specs.Writing.{FitsShape, event_of}
use Rattle.mg_records.specs.declared.write.Write.{Write}
use Rattle.mg_row_writes.specs.Befores.{IsBefore}
use Rattle.mg_row_writes.specs.Changing.{FailsFirst, FailsOver, FailsPlace, FailsReplacing, FailsTakingOut, TakesNewestOut, TakesPlace}
use Rattle.mg_row_writes.specs.Finding.{IsInWay}
use Rattle.mg_row_writes.specs.Storing.{MayBeStored, row_stored, written_at}
use Rattle.mg_row_writes.specs.declared.before.Before.{Before}
use Rattle.mg_row_writes.specs.declared.before.Way.TheVariants as ways
use Rattle.mg_row_writes.specs.declared.before.Way.{Way}
use Rattle.mg_seek.specs.Speaking.{IsSpeaker}
use Rattle.mg_space.specs.Taking.{IsGeometry}
use Rattle.mg_space.specs.TakingLaws.{page_sizes}
use Rattle.mg_space.specs.View.{Tells}
use Rattle.mg_space.specs.declared.fault.SpaceFault.TheVariants as space
use Rattle.mg_space.specs.declared.links.FireLinks.{FireLinks}
use Rattle.mg_tie_laws.specs.Changed.{changed_fresh}
use Rattle.mg_txlist.specs.TxList.{said}
use Rattle.mg_version.specs.declared.cell.Version.{Version}
use Rattle.mg_waits.specs.Waits.{edges_in}
use Rattle.mg_works.specs.Works.{given_to, work_of}
use Rattle.mg_engine_change_laws.specs.entries.EnteredAllLaws.{AllEntered, RowEntered}
use Rattle.mg_engine_change_laws.specs.entries.EntryOverLaws.{StandsOver}
use Rattle.mg_engine_change_laws.specs.rows.Starts.{StandsCleared, StandsPlaced, StartsOver}
use Rattle.mg_entries.specs.Entries.{FailsAll}
use Rattle.mg_entry_tie_laws.specs.IndexPlaces.{HasRoot}
use Rattle.mg_image.specs.Form.{Pages, Row}
use Rattle.mg_image.specs.Indexes.{index_entry}
use Rattle.mg_image.specs.Records.{Reading}
use Rattle.mg_image.specs.Tables.{stands_of, table_at}
use Rattle.mg_image_overlay_laws.specs.tables.OneTable.{table_at_stands}
use Rattle.mg_model.specs.declared.table.Index.{Index}
use Rattle.mg_no_damage_laws.specs.EntryCalls.{entry_meets_none, root_there}
use Rattle.mg_no_damage_laws.specs.EntryTrees.{no_places, trees_of_standing}
use Rattle.mg_pool.specs.Pool.{IsPool, shown}
use Rattle.mg_records.specs.declared.write.Write.TheVariants as writes
use Rattle.mg_row_writes.specs.Laying.{EntersRow, FailsEnterFirst, FailsEnterOver, FailsEnterOwn, FailsEntering, FailsLay, FailsThen, KeysMayBeLaid, no_first, no_place, not_cleared, not_entered, not_pushed, not_put_in}
use Rattle.mg_space.specs.RegionLaws.{sound_regions}
use Rattle.mg_space.specs.declared.fault.SpaceFault.{SpaceFault}
use Rattle.std.proofs.Common.{List, None, Option, Some, ap, length, map, subst, sym, true, ℕ, ◌+◌, ◌∙◌, ◌∷◌, ◌≡◌, ◌≢◌, ◌≤◌}

module _ {D P : Type 0} (m : Meaning D) (places : Places P) (parts : WriteParts m) (old : Core D) (t : TxNo)
    (table : Table) (write : Write) (core : IsCore m old) (given : given_to old.works t.0 table.name ≡ Some table)
    (noted : HasNoted old.works t.0 table) (fits : FitsShape table.shape write) (o : Opening) (h : Entries) (read : Core D) (before : Before)
    (version : Version) (ready : IsReady m old read t table write before version) (stands : StandsFor m old o h) where
  free : IsFree m old ready.free t table write ready.wait ready.rec
  free = ready.is_free

  begun : HasBegun old free.has_found.has_passed.begun t ready.wait
  begun = free.has_found.has_passed.has_begun

  begun_since : HasRead m old free.has_found.has_passed.begun t.0
  begun_since = begun_read m parts.counts_now old core t table write free.has_found.has_passed.begun ready.wait begun

  passed_since : HasRead m old free.has_found.passed t.0
  passed_since = passed_read m parts.counts_now old core t table write free.has_found.passed ready.wait
      free.has_found.has_passed

  found_since : HasRead m old free.found t.0
  found_since = found_read m parts.counts_now old core t table write free.found ready.wait ready.rec free.has_found

  free_since : HasRead m old ready.free t.0
  free_since = free_read m parts.counts_now old core t table write ready.free ready.wait ready.rec free

  since : HasRead m old read t.0
  since = reads_on m parts.counts_now old ready.free read t.0 free_since ready.has.reads

  online : old.store.offline ≡ None
  online = begun.continues.0

  answered : answer o h (event_of t table.name write) ≡ Fine
  answered = free_answer parts.speakers parts.obstacles parts.rows parts.nothing parts.begin parts.verdicts
      parts.nobody parts.dirs m places parts.counts_now old core t table write given begun.continues o h stands ready.free
      ready.wait ready.rec free

  -- ---- pages were read

  starts : StartsOver m old read o h t.0 table write before
  starts = parts.starts no_places old read t table write before version o h core given noted fits ready stands

  abbrev mid_stands : StandsFor m (record old { store = read.store }) o h
  mid_stands = starts.at_read.over.stands

  mid_online : read.store.offline ≡ None
  mid_online = since.keeps.offline ∙ online

  abbrev mid_shows : ShowsIt m (record old { store = read.store }) o h
      (standing_of (record old { store = read.store }) mid_stands.numbers mid_stands.tables)
  mid_shows = starts.at_read.shows

  mid_told : m.tells read.store.disk ≡ true
  mid_told = mid_stands.tells

  mid_geometry : IsGeometry read.store.geometry
  mid_geometry = subst IsGeometry (sym since.keeps.geometry) core.geometry

  work_is : work_of old.works t.0 ≡ Some begun.may.work
  work_is = sym (ap (λ (c : Core D). work_of c.works t.0) begun_since.same) ∙ begun.may.its

  abbrev its_there : IsShown mid_shows.stands.shows.layout table
  its_there = there parts.speakers parts.befores parts.follow parts.may_write parts.coded parts.lists m places
      parts.unask (record old { store = read.store }) since.keeps.pool o h mid_stands mid_shows t begun.continues.1
      begun.may.work work_is table given write fits read.waits since.over before version ready.has.stored
      answered

  -- what was told of the pages is so of these
  told_mid : (now : Core D) → HasRead m old now t.0 → (Q : Core D → Pages → Type 0)
      → ((image : Image) → Tells m now.store.disk image → Q now (shown now.store.dirty image))
      → Q (record old { store = now.store; waits = now.waits }) (shown read.store.dirty mid_shows.image)
  told_mid now had Q told = subst (λ (d : DirtyPages). Q (record old { store = now.store; waits = now.waits })
      (shown d mid_shows.image)) (sym since.keeps.dirty) (told_before m old now t.0 had Q told mid_shows.image
      (record { told = stands.tells; held = sym since.keeps.disk.held ∙ mid_shows.held }))

  -- who speaks for the key, that nobody is in the way there, and what stands there
  abbrev Facts_at : Option RecId → Type 0
  Facts_at r = IsSpeaker (said old.list) old.live (shown read.store.dirty mid_shows.image) table
      (written_at table write) r
      × IsInWay (said old.list) old.live t.0 (shown read.store.dirty mid_shows.image) r None
      × IsBefore (said old.list) old.live t.0 (shown read.store.dirty mid_shows.image) table r before

  facts : Facts_at ready.rec
  facts = (
    subst (λ (r : Option RecId). IsSpeaker (said old.list) old.live (shown read.store.dirty mid_shows.image) table
        (written_at table write) r) (sym free.has_found.finds.is) (told_mid free.has_found.passed passed_since
        (λ c view. KnowsKey c table (written_at table write) view
        → IsOfKey c t table (written_at table write) free.has_found.finds.found view)
        free.has_found.finds.reads.told (knows_key m (record old { store = read.store }) o h mid_stands.numbers
        mid_stands.tables mid_shows parts.dirs.walked table its_there parts.dirs.speakers
        (written_at table write))).spoken,
    none_passed (said old.list) old.live t.0 (shown read.store.dirty mid_shows.image) ready.rec
        (edges_in free.found.waits) ready.wait free.passes.found (told_mid free.found found_since
        (λ c view. IsOfRecord c t ready.rec view free.passes.found) free.passes.told) free.passes.passed,
    told_mid ready.free free_since (λ c view. StandsBefore c t table ready.rec before view) ready.has.told,
  )

  facts_at : (r : Option RecId) → record_of before.way ≡ r → Facts_at r
  facts_at r is = subst Facts_at (sym (goes_to (said old.list) old.live t.0
      (shown read.store.dirty mid_shows.image) table ready.rec before facts.2) ∙ is) facts

  -- ---- the pages that were read

  abbrev state : ℕ → TxState
  state = left_state everyone (said old.list)

  tells_mid : Tells m read.store.disk mid_shows.image
  tells_mid = record { told = mid_stands.tells; held = mid_shows.held }

  sound_mid : ShowsSound m read.store mid_shows.image (left_state everyone (said old.list))
      mid_shows.stands.shows.layout mid_shows.stands.shows.reading
  sound_mid = record { tells = tells_mid; geometry = mid_geometry; sound = mid_shows.stands.shows.sound }

  -- the table may have such a version
  owner_some : table.pointer.0 ≢ 0
  owner_some =
      let on = parts.stand read.store.geometry.size (left_state everyone (said old.list))
      (shown read.store.dirty mid_shows.image) mid_shows.stands.shows.layout mid_shows.stands.shows.reading
      mid_shows.stands.shows.sound its_there.its table its_there.stands its_there.same in
      subst (λ (p : PageNo). p.0 ≢ 0) on.same.pointer on.has.first

  short : length version.body + 42 ≤ read.store.geometry.size
  short = stored_short read.store.geometry.size table t.0 write version ready.has.stored
      (rows_fit read.store.geometry.size (map (λ stand. stand.table) mid_shows.stands.shows.layout.tables) table
      mid_shows.stands.shows.sound.names.all.fit ((mid_shows.stands.shows.tables t.0 begun.continues.1).seen table.name
      table (mid_stands.given t.0 table.name table given)))
      (page_sizes read.store.geometry.size mid_geometry.size).0

  pub may_store : MayBeStored read.store.geometry.size table.pointer.0 version
  may_store = record { some = owner_some; short = short }

  -- the record that speaks for the key
  spoken : (rec : RecId) → Facts_at (Some rec)
      → (x : Table) × IsRecordOf mid_shows.stands.shows.layout mid_shows.stands.shows.reading rec x
  spoken rec at = spoken_record o h (left_state everyone (said old.list)) (shown read.store.dirty mid_shows.image)
      mid_shows.stands.shows.layout mid_shows.stands.shows.reading mid_shows.stands.shows.versions table.name
      (written_at table write) rec (parts.speakers read.store.geometry.size o h
      (standing_of (record old { store = read.store }) mid_stands.numbers mid_stands.tables)
      (shown read.store.dirty mid_shows.image)
      (record { memory = mid_shows.stands.memory; shows = mid_shows.stands.shows }) table (written_at table write)
      (Some rec) its_there at.0)

  -- the keys of its row are short
  pub keys_short : KeysMayBeLaid read.store.geometry.size table write
  keys_short = write_keys_short read.store.geometry.size table write fits
      (keys_fit read.store.geometry.size (map (λ stand. stand.table) mid_shows.stands.shows.layout.tables) table
      mid_shows.stands.shows.sound.names.all.fit ((mid_shows.stands.shows.tables t.0 begun.continues.1).seen table.name
      table (mid_stands.given t.0 table.name table given)))
      (page_sizes read.store.geometry.size mid_geometry.size).0

  -- ---- entries, and then a version, from a store over which the engine stands

  module _ (start : Pool D FireLinks) (it : StandsOver m old start o h t.0) (pool : IsPool m start)
      (up : start.offline ≡ None) (from_old : start.geometry ≡ old.store.geometry) (rec : RecId)
      (new : Pool D FireLinks) (damage : Damaged) where
    -- an entry of its row meets none
    module _ (row : Row) (fails : FailsAll m table.indexes rec row start new (space.Damaged damage)) where
      some_laid : AllEntered m old start fails.mid o h t.0 it fails.first rec row
      some_laid = parts.all no_places old read t table write before version o h core given noted fits ready stands
          start fails.mid it pool up from_old fails.first (fails.index ∷ fails.later) fails.parts rec row fails.laid

      some_geometry : IsGeometry fails.mid.geometry
      some_geometry = subst IsGeometry (sym (some_laid.geometry ∙ from_old)) core.geometry

      row_none : ⊥
      row_none = entry_meets_none m parts.entries_lawful parts.entries_none parts.taken fails.mid new
          some_laid.now.shows.image table.indexes fails.index.root.0 (index_entry fails.index rec row) damage
          (record { told = some_laid.now.over.stands.tells; held = some_laid.now.shows.held }) some_geometry
          (sound_regions fails.mid.geometry (shown fails.mid.dirty some_laid.now.shows.image) some_geometry
          some_laid.now.shows.stands.shows.sound.header.whole some_laid.now.shows.stands.shows.sound.inventory)
          some_laid.now.shows.stands.shows.sound.header.whole
          (trees_of_standing m old o h t begun.continues.1 table given fails.mid some_laid.up some_laid.now.over.stands)
          (subst (λ (xs : List Index). HasRoot xs fails.index.root.0) (sym fails.parts)
          (root_there fails.first fails.index fails.later)) fails.refused

    entries_none : (w : Write) → FailsEntering m start new table rec w (space.Damaged damage) → ⊥
    entries_none (writes.Insert row) fails = row_none row fails
    entries_none (writes.Change key row) fails = row_none row fails
    entries_none (writes.Erase key) fails = absurd fails

    then_none : (puts : Pool D FireLinks → SpaceFault → Type 0)
        → ((b : Pool D FireLinks) → EntersRow m start b table rec write → puts b (space.Damaged damage) → ⊥)
        → FailsThen m start new table rec write puts (space.Damaged damage) → ⊥
    then_none puts each (not_entered fails) = entries_none write fails
    then_none puts each (not_put_in b enters fails) = each b enters fails

    -- behind all of them the pages show a sound image with the same records
    module _ (b : Pool D FireLinks) (enters : EntersRow m start b table rec write) where
      abbrev entered : RowEntered m old start b o h t.0 it table rec version (row_stored table write)
      entered = parts.rows_enter no_places old read t table write before version o h core given noted fits ready stands
          start b it pool up from_old rec enters

      sound_then : ShowsSound m b entered.now.shows.image (left_state everyone (said old.list))
          entered.now.shows.stands.shows.layout entered.now.shows.stands.shows.reading
      sound_then = record {
        tells = record { told = entered.now.over.stands.tells; held = entered.now.shows.held };
        geometry = subst IsGeometry (sym (entered.geometry ∙ from_old)) core.geometry;
        sound = entered.now.shows.stands.shows.sound;
      }

      abbrev its_then : (x : Table) → IsRecordOf it.shows.stands.shows.layout it.shows.stands.shows.reading rec x
          → IsRecordOf entered.now.shows.stands.shows.layout entered.now.shows.stands.shows.reading rec x
      its_then x its = record {
        of = entered.owners rec.page.0 ∙ its.of;
        newest = its.newest;
        older = its.older;
        are = ap (λ (r : Reading). r rec) entered.reads ∙ its.are;
      }

      short_then : length version.body + 42 ≤ b.geometry.size
      short_then = subst (λ (g : Geometry). length version.body + 42 ≤ g.size)
          (since.keeps.geometry ∙ sym (entered.geometry ∙ from_old)) short

    -- ---- the ways

    pushed_none : (x : Table) → IsRecordOf it.shows.stands.shows.layout it.shows.stands.shows.reading rec x
        → FailsEnterOver m start new table rec write version (space.Damaged damage) → ⊥
    pushed_none x its fails = then_none (λ b given. FailsOver m b new rec version given)
        (λ b enters own. parts.pushed b new (entered b enters).now.shows.image (left_state everyone (said old.list))
        (entered b enters).now.shows.stands.shows.layout (entered b enters).now.shows.stands.shows.reading
        (sound_then b enters) rec x (its_then b enters x its) version (short_then b enters) damage own) fails

    replaced_none : (x : Table) (its : IsRecordOf it.shows.stands.shows.layout it.shows.stands.shows.reading rec x)
        → its.newest.version.tx ≡ version.tx
        → FailsEnterOwn m start new table rec write version (space.Damaged damage) → ⊥
    replaced_none x its own_tx fails = then_none (λ b given. FailsReplacing m b new rec version given)
        (λ b enters own. parts.replaced b new (entered b enters).now.shows.image (left_state everyone (said old.list))
        (entered b enters).now.shows.stands.shows.layout (entered b enters).now.shows.stands.shows.reading
        (sound_then b enters) rec x (its_then b enters x its) version own_tx (short_then b enters) damage own) fails

    made_none : (x : Table) → table_at (stands_of it.shows.stands.shows.layout) rec.page.0 ≡ Some x
        → x.pointer ≡ table.pointer → HasPlace (shown start.dirty it.shows.image rec.page.0) rec.slot
        → FailsEnterFirst m start new table rec write version (space.Damaged damage) → ⊥
    made_none x of same place fails = then_none (λ b given. FailsFirst m b new table.pointer.0 rec version given)
        (λ b enters own. parts.made b new (entered b enters).now.shows.image (left_state everyone (said old.list))
        (entered b enters).now.shows.stands.shows.layout (entered b enters).now.shows.stands.shows.reading
        (sound_then b enters) x (table_at_stands (entered b enters).now.shows.stands.shows.layout rec.page.0 x
        ((entered b enters).owners rec.page.0 ∙ of)) rec ((entered b enters).owners rec.page.0 ∙ of)
        (subst (λ (page : List ℕ). HasPlace page rec.slot) (sym ((entered b enters).pages rec.page.0 x of)) place) version
        (short_then b enters) damage
        (subst (λ (p : PageNo). FailsFirst m b new p.0 rec version (space.Damaged damage)) (sym same) own)) fails

  module _ (new : Pool D FireLinks) (it : Damaged) where
    -- ---- in a record that is there

    pushes : (rec : RecId) → before.way ≡ ways.Push rec
        → FailsEnterOver m read.store new table rec write version (space.Damaged it) → ⊥
    pushes rec way fails = let (x, its) = spoken rec (facts_at (Some rec) (ap record_of way)) in
        pushed_none read.store starts.at_read since.keeps.pool mid_online since.keeps.geometry rec new it x its fails

    replaces : (rec : RecId) → before.way ≡ ways.Replace rec
        → FailsEnterOwn m read.store new table rec write version (space.Damaged it) → ⊥
    replaces rec way fails =
        let at : Facts_at (Some rec) = facts_at (Some rec) (ap record_of way) in
        let (x, its) = spoken rec at in
        let mine : IsOwn (said old.list) old.live t.0 (shown read.store.dirty mid_shows.image) rec =
        replaced_own (said old.list) old.live t.0 (shown read.store.dirty mid_shows.image) table rec rec before at.2
        way in
        replaced_none read.store starts.at_read since.keeps.pool mid_online since.keeps.geometry rec new it x its
        (sym (newest_found parts.places_of (said old.list) (left_state everyone (said old.list)) old.live
        (shown read.store.dirty mid_shows.image) mid_shows.stands.shows.layout mid_shows.stands.shows.reading
        mid_shows.stands.shows.sound.records rec x its mine.newest mine.first)
        ∙ same_number mine.newest.version.tx version.tx (mine.own ∙ sym ready.has.stored.its)) fails

    places_taken : FailsPlace m read.store new table.pointer.0 (space.Damaged it) → ⊥
    places_taken own = parts.placed read.store new mid_shows.image (left_state everyone (said old.list))
        mid_shows.stands.shows.layout mid_shows.stands.shows.reading sound_mid its_there.its its_there.stands it
        (subst (λ (p : PageNo). FailsPlace m read.store new p.0 (space.Damaged it)) (sym its_there.same.pointer) own)

    outs : (rec : RecId) → before.way ≡ ways.PushOverDead rec
        → FailsTakingOut m read.store new rec (space.Damaged it) → ⊥
    outs rec way own = let (x, its) = spoken rec (facts_at (Some rec) (ap record_of way)) in
        parts.out read.store new mid_shows.image (left_state everyone (said old.list))
        mid_shows.stands.shows.layout mid_shows.stands.shows.reading sound_mid rec x its it own

    -- ---- after a first batch

    module _ (way : before.way ≡ ways.Make) (placed : Pool D FireLinks) (at : RecId)
        (takes : TakesPlace m read.store placed table.pointer.0 at) where
      abbrev now : StandsPlaced m old placed o h t.0 table at
      now = starts.at_placed way placed at takes

      placed_geometry : placed.geometry ≡ old.store.geometry
      placed_geometry = takes.changed.geometry ∙ (takes.keeps.geometry ∙ since.keeps.geometry)

      has_place : HasPlace (shown placed.dirty now.it.shows.image at.page.0) at.slot
      has_place = subst (λ (pages : Pages). HasPlace (pages at.page.0) at.slot)
          (sym (changed_fresh m read.store placed mid_shows.image now.it.shows.image takes.batch (asked_in old.works)
          (sessions_in old.works) (record {
            ready = takes.ready;
            geometry = mid_geometry;
            keeps = takes.keeps;
            frame = takes.changed.frame;
            tells = tells_mid;
            held = now.it.shows.held;
          })).pool) (parts.room read.store mid_shows.image (left_state everyone (said old.list))
          mid_shows.stands.shows.layout mid_shows.stands.shows.reading sound_mid its_there.its its_there.stands
          takes.batch at (subst (λ (p : PageNo). GivesSpot read.store mid_shows.image no_batch takes.batch p.0 at)
          (sym its_there.same.pointer) (takes.filled mid_shows.image tells_mid)))

      firsts : FailsEnterFirst m placed new table at write version (space.Damaged it) → ⊥
      firsts fails = made_none placed now.it takes.changed.pool takes.changed.online.1 placed_geometry at new it now.its
          now.placed now.same has_place fails

    module _ (rec : RecId) (way : before.way ≡ ways.PushOverDead rec) (cleared : Pool D FireLinks)
        (takes : TakesNewestOut m read.store cleared rec) where
      abbrev gone : StandsCleared m old cleared o h t.0 table (written_at table write) rec
      gone = starts.at_cleared rec way cleared takes

      overs : FailsEnterOver m cleared new table rec write version (space.Damaged it) → ⊥
      overs fails =
          let (x, its) = spoken_record o h (left_state everyone (said old.list)) (shown cleared.dirty gone.it.shows.image)
          gone.it.shows.stands.shows.layout gone.it.shows.stands.shows.reading
          gone.it.shows.stands.shows.versions table.name (written_at table write) rec gone.speaks in
          pushed_none cleared gone.it takes.changed.pool takes.changed.online.1
          (takes.changed.geometry ∙ (takes.keeps.geometry ∙ since.keeps.geometry)) rec new it x its fails

    -- ---- on its way

    pub laid : (way : Way) → before.way ≡ way
        → FailsLay m read.store new table way write version (space.Damaged it) → ⊥
    laid ways.Make is (no_place own) = places_taken own
    laid ways.Make is (no_first at placed takes fails) = firsts is placed at takes fails
    laid (ways.Push rec) is fails = pushes rec is fails
    laid (ways.PushOverDead rec) is (not_cleared own) = outs rec is own
    laid (ways.PushOverDead rec) is (not_pushed cleared takes fails) = overs rec is cleared takes fails
    laid (ways.Replace rec) is fails = replaces rec is fails
