-- A version was laid: the engine goes on with its event.
use Rattle.std.proofs.Common.{◌≡◌, ◌==◌, inl, ℕ, true, List, ◌∷◌, ◌++◌, Option, None, Some, refl, sym, ap, ◌∙◌, subst, ◌&&◌}
use Rattle.std.specs.Prelude.{if◌then◌else◌}
use Rattle.mg_base.specs.Disk.{Meaning}
use Rattle.mg_base.specs.Image.{Image}
use Rattle.mg_base.specs.Moments.{joined}
use Rattle.mg_base.specs.declared.numbers.RecId.{RecId}
use Rattle.mg_base.specs.declared.numbers.TxNo.{TxNo}
use Rattle.mg_model.specs.declared.answer.Answer.TheVariants.{Fine}
use Rattle.mg_model.specs.declared.opening.Opening.{Opening}
use Rattle.mg_model.specs.declared.table.Table.{Table}
use Rattle.mg_model.specs.Answers.{answer}
use Rattle.mg_model.specs.History.{Entries}
use Rattle.mg_model.specs.Laws.{OpeningsBegin}
use Rattle.mg_records.specs.Writing.{FitsShape, event_of}
use Rattle.mg_records.specs.declared.write.Write.{Write}
use Rattle.mg_engine_step_laws.specs.reads.AnswersLaws.{NothingAtKeys, ObstaclesAtKeys, RowsAtKeys, SpeakersAreTold}
use Rattle.mg_engine_step_laws.specs.writes.Knowing.{HasEntries}
use Rattle.mg_engine_step_laws.specs.commits.ListShows.{BehindKeepsTips, ListsStay, TipsStayOn}
use Rattle.mg_engine_step_laws.specs.writes.Spoken.{spoken_of}
use Rattle.mg_engine_step_laws.specs.standing.StandingLaws.{IsChainOf}
use Rattle.mg_image.specs.RecordRules.{Facts}
use Rattle.mg_image.specs.Records.{Reading, cells_of}
use Rattle.mg_image.specs.Sound.{facts_by}
use Rattle.mg_image.specs.Tables.{stands_of, table_at}
use Rattle.mg_value.specs.declared.value.Value.{Value}
use Rattle.mg_engine_step_laws.specs.writes.Batches.{ReadsLast, RowsLastStill}
use Rattle.mg_engine_step_laws.specs.writes.GoesOn.{WritesGoOn}
use Rattle.mg_engine_step_laws.specs.writes.Rows.{DeadsGo, PushesGoOn, ReplacementsGoOn, FirstsGoOn}
use Rattle.mg_engine_step_laws.specs.commits.Unasked.{UnaskingLasts}
use Rattle.mg_image.specs.Form.{Pages, packed_coding, packed_form}
use Rattle.mg_image.specs.ReadingLaws.{RowsAreOne}
use Rattle.mg_lasting_laws.specs.Crashes.{HoldsAcknowledged, LeavesSince}
use Rattle.mg_lasting_laws.specs.PoolLaws.{HoldsOne}
use Rattle.mg_pool.specs.Dirty.{DirtyPages}
use Rattle.mg_pool.specs.Pool.{IsPool, shown}
use Rattle.mg_pool.specs.declared.pool.Pool.{Pool}
use Rattle.mg_row_writes.specs.Befores.{IsBefore}
use Rattle.mg_row_writes.specs.Finding.{IsInWay}
use Rattle.mg_row_writes.specs.Changing.{TakesNewestOut, TakesPlace}
use Rattle.mg_row_writes.specs.Laying.{EntersRow, Lays, LaysNew, LaysOverDead, laid_in}
use Rattle.mg_row_writes.specs.Storing.{row_stored, written_at}
use Rattle.mg_row_writes.specs.declared.before.Before.{Before}
use Rattle.mg_row_writes.specs.declared.before.Way.{Way}
use Rattle.mg_row_writes.specs.declared.before.Way.TheVariants as ways
use Rattle.mg_engine_step_laws.specs.writes.Writes.{IsSilentAt}
use Rattle.mg_seek.specs.Readings.{SpeakersOfReadings}
use Rattle.mg_seek.specs.Speaking.{IsSpeaker}
use Rattle.mg_version.specs.declared.cell.Version.{Version}
use Rattle.mg_space.specs.Taking.{IsGeometry}
use Rattle.mg_space.specs.View.{Tells}
use Rattle.mg_space.specs.ViewLaws.{CountsNow}
use Rattle.mg_space.specs.declared.links.FireLinks.{FireLinks}
use Rattle.mg_txlist.specs.TxList.{said}
use Rattle.mg_waits.specs.Machine.{NobodyWaits, VerdictsAreTheMachines}
use Rattle.mg_waits.specs.Waits.{edges_in}
use Rattle.mg_works.specs.Works.{given_to, work_of}
use Rattle.mg_core.specs.declared.parts.Core.{Core}
use Rattle.mg_core.specs.Cores.{IsCore}
use Rattle.mg_core.specs.Obstacles.{IsOfRecord}
use Rattle.mg_core.specs.Putting.{LaysKept, StandsBefore, works_kept}
use Rattle.mg_core.specs.Writing.{HasBegun, IsFree, IsOfKey, KnowsKey}
use Rattle.mg_engine_meaning_laws.specs.Meaning.{Places}
use Rattle.mg_engine_meaning_laws.specs.Standings.{ShowsIt, StandsFor, asked_in, sessions_in, standing_of, StandsWhile}
use Rattle.mg_engine_meaning_laws.specs.ReadLaws.{reads_stand}
use Rattle.mg_engine_meaning_laws.specs.StepLaws.{shows_of, as_standing}
use Rattle.mg_engine_step_laws.specs.standing.Known.{IsShown, seen_is_shown}
use Rattle.mg_model.specs.Machine.{own}
use Rattle.mg_model.specs.Openings.{everyone}
use Rattle.mg_overlay_laws.specs.Overlays.{left_state}
use Rattle.mg_undo.specs.Machine.{was_in}
use Rattle.mg_base.specs.declared.geometry.Geometry.{Geometry}
use Rattle.mg_engine_step_laws.specs.reads.Walking.{AreToCome, WalkPlace}
use Rattle.mg_model.specs.Changes.{KeyedRows, same_name}
use Rattle.mg_engine_step_laws.specs.standing.Standing.{Standing}
use Rattle.mg_directory.specs.Candidates.{Kept, NotesOrDrops, by_table}
use Rattle.mg_engine_meaning_laws.specs.KnownRecords.{KnowsIts}
use Rattle.mg_sortkey.specs.KeyBytes.{key_bytes}
use Rattle.mg_engine_meaning_laws.specs.DirectoryLaws.{knows_key}
use Rattle.mg_engine_change_laws.specs.memory.Directories.{DirectoriesTell}
use Rattle.mg_engine_change_laws.specs.rows.Walks.{WalkInto}
use Rattle.mg_engine_change_laws.specs.rows.Spots.{HasTaken}
use Rattle.mg_engine_change_laws.specs.rows.Befores.{BeforesAreTold}
use Rattle.mg_engine_change_laws.specs.rows.Codes.{StoredRowsAreCoded}
use Rattle.mg_engine_meaning_laws.specs.Formers.{MayReturn}
use Rattle.mg_engine_change_laws.specs.entries.EnteredAllLaws.{AllEntered, RowEntered, all_entered, row_entered}
use Rattle.mg_engine_change_laws.specs.rows.Starts.{StartsOver}
use Rattle.mg_entries.specs.Entries.{LaysAll}
use Rattle.mg_image.specs.Form.{Row}
use Rattle.mg_model.specs.declared.table.Index.{Index}
use Rattle.mg_engine_change_laws.specs.rows.Enters.{cleared_told, committed_stands, dead_cleared, made_stands, placed_there, placed_told, replaced_stands, settled_there, speaks_there, spot_taken, tells, there, there_is, was_told}
use Rattle.mg_engine_change_laws.specs.entries.EntryOverLaws.{StandsOver}
use Rattle.mg_entry_step_laws.specs.EntryStays.{EntriesStay}
use Rattle.mg_engine_change_laws.specs.rows.Kept.{MadeWritesFollow, made_by}
use Rattle.mg_engine_change_laws.specs.keys.Clearing.{HasCleared, StaysFor}
use Rattle.mg_engine_change_laws.specs.rows.Laid.{GoesOnWith, HasNoted, StaysOver, bare_standing}
use Rattle.mg_engine_change_laws.specs.memory.Notes.{HasRead}
use Rattle.mg_engine_change_laws.specs.rows.Owners.{SeenMayBeWritten}
use Rattle.mg_engine_change_laws.specs.rows.Plain.{WritesKeepPlain}
use Rattle.mg_engine_change_laws.specs.rows.Refusals.{IsReady}
use Rattle.mg_engine_change_laws.specs.rows.RefusalLaws.{begun_read, found_read, free_answer, free_read, passed_read}
use Rattle.mg_engine_change_laws.specs.rows.StopLaws.{reads_on, told_before}
use Rattle.mg_engine_change_laws.specs.rows.Ways.{WaysAreFree}
use Rattle.mg_engine_change_laws.specs.rows.WriteWays.{goes_to, none_passed, record_of}

-- ---- the whole call

module _ (speakers : SpeakersAreTold) (obstacles : ObstaclesAtKeys) (rows : RowsAtKeys) (nothing : NothingAtKeys)
    (begin : OpeningsBegin) (verdicts : VerdictsAreTheMachines) (nobody : NobodyWaits) (befores : BeforesAreTold)
    (follow : MadeWritesFollow) (may_write : SeenMayBeWritten) (coded : StoredRowsAreCoded) (lists : ListsStay)
    (one : RowsAreOne packed_coding) (on : TipsStayOn) (behind : BehindKeepsTips) (keep_plain : WritesKeepPlain)
    (ways_free : WaysAreFree) (dirs : DirectoriesTell) {D P : Type 0} (m : Meaning D) (places : Places P) (counts_now : CountsNow m)
    (holds : HoldsOne D m) (unask : UnaskingLasts packed_form D FireLinks m)
    (last : ReadsLast D FireLinks m packed_form) (go : WritesGoOn D FireLinks m packed_form)
    (push_on : PushesGoOn packed_form D FireLinks m) (replace_on : ReplacementsGoOn packed_form D FireLinks m)
    (old : Core D) (t : TxNo) (table : Table) (write : Write) (core : IsCore m old)
    (given : given_to old.works t.0 table.name ≡ Some table) (noted : HasNoted old.works t.0 table)
    (fits : FitsShape table.shape write) (o : Opening) (h : Entries) (read : Core D) (before : Before)
    (version : Version) (ready : IsReady m old read t table write before version) (stands : StandsFor m old o h) where
  free : IsFree m old ready.free t table write ready.wait ready.rec
  free = ready.is_free

  begun : HasBegun old free.has_found.has_passed.begun t ready.wait
  begun = free.has_found.has_passed.has_begun

  begun_since : HasRead m old free.has_found.has_passed.begun t.0
  begun_since = begun_read m counts_now old core t table write free.has_found.has_passed.begun ready.wait begun

  passed_since : HasRead m old free.has_found.passed t.0
  passed_since = passed_read m counts_now old core t table write free.has_found.passed ready.wait
      free.has_found.has_passed

  found_since : HasRead m old free.found t.0
  found_since = found_read m counts_now old core t table write free.found ready.wait ready.rec free.has_found

  free_since : HasRead m old ready.free t.0
  free_since = free_read m counts_now old core t table write ready.free ready.wait ready.rec free

  since : HasRead m old read t.0
  since = reads_on m counts_now old ready.free read t.0 free_since ready.has.reads

  online : old.store.offline ≡ None
  online = begun.continues.0

  answered : answer o h (event_of t table.name write) ≡ Fine
  answered = free_answer speakers obstacles rows nothing begin verdicts nobody dirs m places counts_now old core t table
      write given begun.continues o h stands ready.free ready.wait ready.rec free

  -- pages were read
  abbrev mid : Core D
  mid = record old { store = read.store }

  pub mid_stands : StandsFor m (record old { store = read.store }) o h
  mid_stands = reads_stand m places begin last old read.store since.keeps old.damage old.shortages o h
      stands

  mid_online : read.store.offline ≡ None
  mid_online = since.keeps.offline ∙ online

  pub mid_shows : ShowsIt m (record old { store = read.store }) o h
      (standing_of (record old { store = read.store }) mid_stands.numbers mid_stands.tables)
  mid_shows = shows_of m (record old { store = read.store }) o h mid_stands mid_online

  -- what was told of the pages is so of these
  told_mid : (now : Core D) → HasRead m old now t.0 → (Q : Core D → Pages → Type 0)
      → ((image : Image) → Tells m now.store.disk image → Q now (shown now.store.dirty image))
      → Q (record old { store = now.store; waits = now.waits })
      (shown read.store.dirty mid_shows.image)
  told_mid now had Q told = subst (λ (d : DirtyPages). Q (record old { store = now.store; waits = now.waits })
      (shown d mid_shows.image)) (sym since.keeps.dirty) (told_before m old now t.0 had Q told mid_shows.image
      (record { told = stands.tells; held = sym since.keeps.disk.held ∙ mid_shows.held }))

  its_shown : IsShown mid_shows.stands.shows.layout table
  its_shown = seen_is_shown mid_shows.stands.shows.layout table ((mid_shows.stands.shows.tables t.0
      begun.continues.1).seen table.name table (mid_stands.given t.0 table.name table given))

  abbrev Facts_at : Option RecId → Type 0
  Facts_at r = IsSpeaker (said old.list) old.live (shown read.store.dirty mid_shows.image) table
      (written_at table write) r
      × IsInWay (said old.list) old.live t.0 (shown read.store.dirty mid_shows.image) r None
      × IsBefore (said old.list) old.live t.0 (shown read.store.dirty mid_shows.image) table r
      before

  facts : Facts_at ready.rec
  facts = (
    subst (λ (r : Option RecId). IsSpeaker (said old.list) old.live
        (shown read.store.dirty mid_shows.image) table (written_at table write) r)
        (sym free.has_found.finds.is) (told_mid free.has_found.passed passed_since
        (λ c view. KnowsKey c table (written_at table write) view
        → IsOfKey c t table (written_at table write) free.has_found.finds.found view)
        free.has_found.finds.reads.told (knows_key m (record old { store = read.store }) o h mid_stands.numbers
        mid_stands.tables mid_shows dirs.walked table its_shown dirs.speakers (written_at table write))).spoken,
    none_passed (said old.list) old.live t.0 (shown read.store.dirty mid_shows.image) ready.rec
        (edges_in free.found.waits) ready.wait free.passes.found (told_mid free.found found_since
        (λ c view. IsOfRecord c t ready.rec view free.passes.found) free.passes.told) free.passes.passed,
    told_mid ready.free free_since (λ c view. StandsBefore c t table ready.rec before view)
        ready.has.told,
  )

  facts_at : (r : RecId) → record_of before.way ≡ Some r → Facts_at (Some r)
  facts_at r is = subst Facts_at (sym (goes_to (said old.list) old.live t.0
      (shown read.store.dirty mid_shows.image) table ready.rec before facts.2) ∙ is) facts

  work_is : work_of old.works t.0 ≡ Some begun.may.work
  work_is = sym (ap (λ (c : Core D). work_of c.works t.0) begun_since.same) ∙ begun.may.its

  -- walks are as they were where pages were only read
  pub walk_mid : (i : Image) → m.held old.store.disk ≡ Some i → (u : ℕ) (x : Table) (from : Option WalkPlace)
      (rows_ : KeyedRows)
      → AreToCome old.store.geometry.size (bare_standing old) (shown old.store.dirty i) u x from rows_
      → AreToCome read.store.geometry.size (bare_standing old)
      (shown read.store.dirty mid_shows.image) u x from rows_
  walk_mid i held u x from rows_ next =
      let both : Some i ≡ Some mid_shows.image = sym held ∙ (sym since.keeps.disk.held ∙ mid_shows.held) in
      let same : i ≡ mid_shows.image = cc in
      subst (λ (g : Geometry). AreToCome g.size (bare_standing old)
      (shown read.store.dirty mid_shows.image) u x from rows_) (sym since.keeps.geometry)
      (subst (λ (d : DirtyPages). AreToCome old.store.geometry.size (bare_standing old) (shown d mid_shows.image) u x
      from rows_) (sym since.keeps.dirty) (subst (λ (k : Image). AreToCome old.store.geometry.size (bare_standing old)
      (shown old.store.dirty k) u x from rows_) same next))

  mid_geometry : IsGeometry read.store.geometry
  mid_geometry = subst IsGeometry (sym since.keeps.geometry) core.geometry

  first_shows : ShowsIt m old o h (standing_of old stands.numbers stands.tables)
  first_shows = shows_of m old o h stands online

  pub mid_leaves : LeavesSince m old.store.disk read.store.disk
      (HoldsAcknowledged packed_form old.store.dirty.size o h)
  mid_leaves = (last o h old.store read.store (asked_in old.works) (sessions_in old.works)
      (begin o first_shows.stands.opening) first_shows.stands.legal stands.tells since.keeps first_shows.lasts).1

  -- what is left since pages were read is left since the start
  leaves_on : (after : D) → LeavesSince m read.store.disk after
      (HoldsAcknowledged packed_form read.store.dirty.size o h)
      → LeavesSince m old.store.disk after (HoldsAcknowledged packed_form old.store.dirty.size o h)
  leaves_on after leaves =
      let on_it : LeavesSince m read.store.disk after (HoldsAcknowledged packed_form old.store.dirty.size o h) =
      subst (λ (d : DirtyPages). LeavesSince m read.store.disk after (HoldsAcknowledged packed_form d.size o h))
      since.keeps.dirty leaves in record {
        since = joined m old.store.disk read.store.disk after
            (HoldsAcknowledged packed_form old.store.dirty.size o h) mid_leaves.since on_it.since;
        left = on_it.left;
      }

  -- where pages were only read, all stays
  abbrev pub read_stays : StaysOver m old read.store o h t.0
  read_stays = record {
    stands = mid_stands;
    leaves = mid_leaves;
    walks = λ i held u ne also x from rows_ next. (
      mid_shows.image,
      mid_shows.held,
      walk_mid i held u x from rows_ next,
    );
  }

  abbrev read_over : StandsOver m old read.store o h t.0
  read_over = record { over = read_stays; shows = mid_shows }

  -- ---- a first batch, which adds nothing to the history

  abbrev Stayed : Pool D FireLinks → Type 0
  Stayed placed = StaysFor m o h (standing_of (record old { store = read.store }) mid_stands.numbers
      mid_stands.tables) old.list read.store placed (shown read.store.dirty mid_shows.image) (asked_in old.works)
      (sessions_in old.works) t.0

  module _ (placed : Pool D FireLinks) (stays : Stayed placed) (told : m.tells placed.disk ≡ true)
      (up : placed.offline ≡ None) (geometry : placed.geometry ≡ read.store.geometry) where
    abbrev place_shows : ShowsIt m (record old { store = placed }) o h
        (standing_of (record old { store = placed }) mid_stands.numbers mid_stands.tables)
    place_shows = record {
      image = stays.image;
      held = stays.held;
      stands = stays.stands;
      lasts = stays.lasts;
      tips = stays.tips;
      catalog = mid_shows.catalog ∙ sym stays.keeps.catalog;
      plain_tables = stays.plain;
      no_directory = mid_shows.no_directory;
      known = subst (λ (g : Geometry). KnowsIts o.next.0 g.size (said old.list) (shown placed.dirty stays.image)
          old.directories) (sym geometry) (stays.known o.next.0 (by_table old.directories.dirs) mid_shows.known);
    }

    abbrev place_stands : StandsFor m (record old { store = placed }) o h
    place_stands = record {
      tells = told;
      grows = mid_stands.grows;
      bases = mid_stands.bases;
      numbers = mid_stands.numbers;
      tables = mid_stands.tables;
      given = mid_stands.given;
      kept = mid_stands.kept;
      stands = subst (λ (off : Option ℕ). StandsWhile m (record old { store = placed }) o h
          (standing_of (record old { store = placed }) mid_stands.numbers mid_stands.tables) off)
          (sym up) place_shows;
    }

    abbrev stays_over : StaysOver m old placed o h t.0
    stays_over = record {
      stands = place_stands;
      leaves = leaves_on placed.disk stays.leaves;
      walks = λ i held u ne also x from rows_ next. (
        stays.image,
        stays.held,
        as_standing placed.geometry.size
            (standing_of (record old { store = read.store }) mid_stands.numbers mid_stands.tables) (bare_standing old)
            (shown placed.dirty stays.image) u x from rows_ refl refl
            (subst (λ (g : Geometry). AreToCome g.size (standing_of (record old { store = read.store })
            mid_stands.numbers mid_stands.tables) (shown placed.dirty stays.image) u x from rows_) (sym geometry)
            (stays.others u ne also x from rows_ (as_standing read.store.geometry.size (bare_standing old)
            (standing_of (record old { store = read.store }) mid_stands.numbers mid_stands.tables)
            (shown read.store.dirty mid_shows.image) u x from rows_ refl refl (walk_mid i held u x from rows_ next)))),
      );
    }

    abbrev placed_over : StandsOver m old placed o h t.0
    placed_over = record { over = stays_over; shows = place_shows }

  -- a place is taken
  module _ (still : RowsLastStill D FireLinks m packed_form) (way : before.way ≡ ways.Make)
      (placed : Pool D FireLinks) (at : RecId) (takes : TakesPlace m read.store placed table.pointer.0 at) where
    none_at : Facts_at None
    none_at = subst Facts_at (sym (goes_to (said old.list) old.live t.0
        (shown read.store.dirty mid_shows.image) table ready.rec before facts.2) ∙ ap record_of way) facts

    made_was : (before.was ≡ was_in (own o h t.0) table.name (written_at table write))
        × MayReturn table.shape (written_at table write) before.was
    made_was = was_told speakers befores follow may_write coded lists m places unask
        (record old { store = read.store }) since.keeps.pool o h mid_stands mid_shows t begun.continues.1
        begun.may.work work_is table given write fits read.waits since.over before version ready.has.stored
        answered None none_at.0 none_at.2

    abbrev its_there : IsShown mid_shows.stands.shows.layout table
    its_there = there speakers befores follow may_write coded lists m places unask
        (record old { store = read.store }) since.keeps.pool o h mid_stands mid_shows t begun.continues.1
        begun.may.work work_is table given write fits read.waits since.over before version ready.has.stored
        answered

    silent_there : IsSilentAt packed_form read.store.geometry.size o h (standing_of (record old { store = read.store })
        mid_stands.numbers mid_stands.tables) (shown read.store.dirty mid_shows.image) mid_shows.stands.shows
        table.name (written_at table write)
    silent_there = (tells speakers befores follow may_write coded lists m places unask
        (record old { store = read.store }) since.keeps.pool o h mid_stands mid_shows t begun.continues.1
        begun.may.work work_is table given write fits read.waits since.over before version ready.has.stored
        answered None none_at.0).1

    taken : HasTaken m o h (standing_of (record old { store = read.store }) mid_stands.numbers mid_stands.tables)
        old.list read.store placed (shown read.store.dirty mid_shows.image) (asked_in old.works)
        (sessions_in old.works) its_there.its at table.name (written_at table write) t.0
    taken = spot_taken speakers befores follow may_write coded lists m places unask
        (record old { store = read.store }) since.keeps.pool o h mid_stands mid_shows t begun.continues.1
        begun.may.work work_is table given write fits read.waits since.over before version ready.has.stored
        answered noted holds mid_geometry placed one dirs.one_way begin on behind still silent_there at takes

    taken_told : m.tells placed.disk ≡ true
    taken_told = placed_told speakers befores follow may_write coded lists m places unask
        (record old { store = read.store }) since.keeps.pool o h mid_stands mid_shows t begun.continues.1
        begun.may.work work_is table given write fits read.waits since.over before version ready.has.stored
        answered noted holds mid_geometry placed one dirs.one_way begin on behind still silent_there at takes

    taken_geometry : placed.geometry ≡ read.store.geometry
    taken_geometry = takes.changed.geometry ∙ takes.keeps.geometry

    abbrev taken_stays : Stayed placed
    taken_stays = record {
      image = taken.image;
      held = taken.held;
      keeps = taken.keeps;
      lasts = taken.lasts;
      leaves = taken.leaves;
      others = taken.others;
      stands = taken.spot_of.stands;
      tips = taken.spot_of.tips;
      plain = taken.spot_of.plain;
      known = taken.known;
    }

    pub place_stays : StaysOver m old placed o h t.0
    place_stays = stays_over placed taken_stays taken_told takes.changed.online.1 taken_geometry

  -- a dead transaction's version is taken out
  module _ (speak : SpeakersOfReadings) (deads : DeadsGo packed_form D FireLinks m) (rec : RecId)
      (way : before.way ≡ ways.PushOverDead rec) (placed : Pool D FireLinks)
      (takes : TakesNewestOut m read.store placed rec) where
    at_record : Facts_at (Some rec)
    at_record = facts_at rec (ap record_of way)

    over_was : (before.was ≡ was_in (own o h t.0) table.name (written_at table write))
        × MayReturn table.shape (written_at table write) before.was
    over_was = was_told speakers befores follow may_write coded lists m places unask
        (record old { store = read.store }) since.keeps.pool o h mid_stands mid_shows t begun.continues.1
        begun.may.work work_is table given write fits read.waits since.over before version ready.has.stored
        answered (Some rec) at_record.0 at_record.2

    out : HasCleared m o h (standing_of (record old { store = read.store }) mid_stands.numbers mid_stands.tables)
        old.list read.store placed (shown read.store.dirty mid_shows.image) (asked_in old.works)
        (sessions_in old.works) rec table.name (written_at table write) t.0
    out = dead_cleared speakers befores follow may_write coded lists m places unask
        (record old { store = read.store }) since.keeps.pool o h mid_stands mid_shows t begun.continues.1
        begun.may.work work_is table given write fits read.waits since.over before version ready.has.stored
        answered noted holds mid_geometry placed one dirs.one_way on behind keep_plain ways_free speak deads rec at_record.0 at_record.2
        way at_record.1 takes

    out_told : m.tells placed.disk ≡ true
    out_told = cleared_told speakers befores follow may_write coded lists m places unask
        (record old { store = read.store }) since.keeps.pool o h mid_stands mid_shows t begun.continues.1
        begun.may.work work_is table given write fits read.waits since.over before version ready.has.stored
        answered noted holds mid_geometry placed one dirs.one_way on behind keep_plain ways_free speak deads rec at_record.0 at_record.2
        way at_record.1 takes

    out_geometry : placed.geometry ≡ read.store.geometry
    out_geometry = takes.changed.geometry ∙ takes.keeps.geometry

    abbrev out_stays : Stayed placed
    out_stays = record {
      image = out.image;
      held = out.held;
      keeps = out.keeps;
      lasts = out.lasts;
      leaves = out.leaves;
      others = out.others;
      stands = out.settled_of.stands;
      tips = out.settled_of.tips;
      plain = out.settled_of.plain;
      known = out.known;
    }

    pub dead_stays : StaysOver m old placed o h t.0
    dead_stays = stays_over placed out_stays out_told takes.changed.online.1 out_geometry

  -- ---- the starts: pages were read, a place was taken, or a dead transaction's version was taken out

  module _ (still : RowsLastStill D FireLinks m packed_form) (speak : SpeakersOfReadings)
      (deads : DeadsGo packed_form D FireLinks m) where
    pub starts_over : StartsOver m old read o h t.0 table write before
    starts_over = record {
      at_read = read_over;
      at_placed = λ way placed at takes. record {
        it = placed_over placed (taken_stays still way placed at takes) (taken_told still way placed at takes)
            takes.changed.online.1 (taken_geometry still way placed at takes);
        its = (its_there still way placed at takes).its;
        placed = (taken still way placed at takes).spot_of.placed;
        same = (its_there still way placed at takes).same.pointer;
      };
      at_cleared = λ rec way cleared takes. record {
        it = placed_over cleared (out_stays speak deads rec way cleared takes) (out_told speak deads rec way cleared takes)
            takes.changed.online.1 (out_geometry speak deads rec way cleared takes);
        speaks = (out speak deads rec way cleared takes).settled_of.speaks;
      };
    }

  -- ---- the entries are laid, and then the version

  -- in some indexes
  module _ (stay : EntriesStay packed_form D FireLinks m) (a b : Pool D FireLinks) (over : StaysOver m old a o h t.0)
      (pool : IsPool m a) (up : a.offline ≡ None) (from_old : a.geometry ≡ old.store.geometry)
      (indexes later : List Index) (parts : table.indexes ≡ indexes ++ later) (p : RecId) (row : Row)
      (laid : LaysAll m indexes p row a b) where
    pub entries_over : StaysOver m old b o h t.0
    entries_over = (all_entered speakers befores follow may_write coded lists one dirs.one_way m places unask holds stay
        old core t begun.continues.1 begun.may.work work_is table given noted write fits read.waits since.over
        before version ready.has.stored o h answered a
        (record { over = over; shows = shows_of m (record old { store = a }) o h over.stands up }) pool up from_old
        indexes later parts p row b laid).now.over

  module _ (stay : EntriesStay packed_form D FireLinks m) (a : Pool D FireLinks) (it : StandsOver m old a o h t.0)
      (pool : IsPool m a) (up : a.offline ≡ None) (from_old : a.geometry ≡ old.store.geometry) where
    pub all_laid : (indexes later : List Index) → table.indexes ≡ indexes ++ later → (p : RecId) (row : Row)
        (b : Pool D FireLinks) → LaysAll m indexes p row a b → AllEntered m old a b o h t.0 it indexes p row
    all_laid indexes later parts p row b laid = all_entered speakers befores follow may_write coded lists one dirs.one_way
        m places unask holds stay old core t begun.continues.1 begun.may.work work_is table given noted write fits
        read.waits since.over before version ready.has.stored o h answered a it pool up from_old indexes later parts p row b
        laid

  module _ (stay : EntriesStay packed_form D FireLinks m) (a : Pool D FireLinks) (it : StandsOver m old a o h t.0)
      (pool : IsPool m a) (up : a.offline ≡ None) (from_old : a.geometry ≡ old.store.geometry) (rec : RecId)
      (b : Pool D FireLinks) (enters : EntersRow m a b table rec write) where
    pub row_laid : RowEntered m old a b o h t.0 it table rec version (row_stored table write)
    row_laid = row_entered speakers befores follow may_write coded lists one dirs.one_way m places unask holds stay old
        core t begun.continues.1 begun.may.work work_is table given noted write fits read.waits since.over before
        version ready.has.stored o h answered a it pool up from_old rec b enters

  module _ (stay : EntriesStay packed_form D FireLinks m) (new : Core D)
      (laid : LaysKept m read (record new { directories = read.directories }) t.0 table write
      (written_at table write) before version) (notes : NotesOrDrops (by_table read.directories.dirs)
      (by_table new.directories.dirs) table.pointer.0 (key_bytes (written_at table write))
      (laid_in m read.store new.store table before.way write version laid.lays))
    where
      new_is : new ≡ record old {
        store = new.store;
        waits = read.waits;
        works = works_kept t.0 table.pointer.0 (written_at table write) before.was old.works;
        directories = new.directories;
      }
      new_is = ap (λ (c : Core D). record c { directories = new.directories }) laid.same
          ∙ ap (λ (c : Core D). record c {
            store = new.store;
            works = works_kept t.0 table.pointer.0 (written_at table write) before.was c.works;
            directories = new.directories;
          }) since.same

      -- where it was laid, its record was noted
      abbrev LaidAt : Way → Type 0
      LaidAt w = (lays : Lays m read.store new.store table w write version)
          × NotesOrDrops (by_table old.directories.dirs) (by_table new.directories.dirs) table.pointer.0
          (key_bytes (written_at table write)) (laid_in m read.store new.store table w write version lays)

      laid_at : (w : Way) → before.way ≡ w → LaidAt w
      laid_at w is = subst LaidAt is (
        laid.lays,
        subst (λ (k : Kept). NotesOrDrops (by_table k.dirs) (by_table new.directories.dirs) table.pointer.0
            (key_bytes (written_at table write))
            (laid_in m read.store new.store table before.way write version laid.lays))
            (ap (λ (c : Core D). c.directories) since.same) notes,
      )

      abbrev now : Core D
      now = record old {
        store = new.store;
        waits = read.waits;
        works = works_kept t.0 table.pointer.0 (written_at table write) before.was old.works;
        directories = new.directories;
      }

      -- over a cache that stands for the history
      module _ (b : Pool D FireLinks) (it : StandsOver m old b o h t.0) (pool : IsPool m b)
          (from_old : b.geometry ≡ old.store.geometry) where
        abbrev s_b : Standing
        s_b = standing_of (record old {
          waits = read.waits;
          works = works_kept t.0 table.pointer.0 (written_at table write) before.was old.works;
        }) (λ u n. if (u == t.0) && same_name n table.name then table.pointer.0 else it.over.stands.numbers u n)
            it.over.stands.tables

        goes_over : StandsFor m (record old {
          store = new.store;
          waits = read.waits;
          works = works_kept t.0 table.pointer.0 (written_at table write) before.was old.works;
          directories = new.directories;
        }) o (made_by t table write ∷ h) × LeavesSince m b.disk new.store.disk
            (HoldsAcknowledged packed_form b.dirty.size o h)
            × WalkInto m b.geometry.size
            (standing_of (record old { store = b }) it.over.stands.numbers it.over.stands.tables)
            (shown b.dirty it.shows.image) new.store s_b t.0
            → GoesOnWith m old new o h (made_by t table write) t.0
        goes_over stood = record {
          lawful = inl (sym answered);
          stands = subst (λ (c : Core D). StandsFor m c o (made_by t table write ∷ h)) (sym new_is) stood.0;
          leaves = record {
            since = joined m old.store.disk b.disk new.store.disk
                (HoldsAcknowledged packed_form old.store.dirty.size o h) it.over.leaves.since on_it.since;
            left = on_it.left;
          };
          walks = λ i held u ne also x from rows_ next.
              let (k, held_k, next_k) = it.over.walks i held u ne also x from rows_ next in
              subst (λ (c : Core D). (j : Image) × (m.held c.store.disk ≡ Some j)
              × AreToCome c.store.geometry.size (bare_standing c) (shown c.store.dirty j) u x from rows_) (sym new_is)
              (into u x from rows_ (stood.2 u ne also x from rows_ (as_standing b.geometry.size (bare_standing old)
              (standing_of (record old { store = b }) it.over.stands.numbers it.over.stands.tables)
              (shown b.dirty it.shows.image) u x from rows_ refl refl
              (subst (λ (j : Image). AreToCome b.geometry.size (bare_standing old) (shown b.dirty j) u x from rows_)
              (one_image k held_k) next_k))));
        }
          where
            same_size : b.dirty.size ≡ old.store.dirty.size
            same_size = pool.page_size ∙ (ap (λ (g : Geometry). g.size) from_old ∙ sym core.pool.page_size)

            on_it : LeavesSince m b.disk new.store.disk (HoldsAcknowledged packed_form old.store.dirty.size o h)
            on_it = subst (λ (n : ℕ). LeavesSince m b.disk new.store.disk (HoldsAcknowledged packed_form n o h))
                same_size stood.1

            one_image : (k : Image) → m.held b.disk ≡ Some k → k ≡ it.shows.image
            one_image k held = let both : Some k ≡ Some it.shows.image = sym held ∙ it.shows.held in cc

            into : (u : ℕ) (x : Table) (from : Option WalkPlace) (rows_ : KeyedRows)
                → (k : Image) × (m.held new.store.disk ≡ Some k)
                × AreToCome new.store.geometry.size s_b (shown new.store.dirty k) u x from rows_
                → (k : Image) × (m.held new.store.disk ≡ Some k)
                × AreToCome new.store.geometry.size (bare_standing now) (shown new.store.dirty k) u x from rows_
            into u x from rows_ (k, held, next) = (
              k,
              held,
              as_standing new.store.geometry.size s_b (bare_standing now) (shown new.store.dirty k) u x from rows_ refl
                  refl next,
            )

      -- ---- in a record that is there

      module _ (rec : RecId) (its : Facts_at (Some rec)) where
        was : (before.was ≡ was_in (own o h t.0) table.name (written_at table write))
            × MayReturn table.shape (written_at table write) before.was
        was = was_told speakers befores follow may_write coded lists m places unask
            (record old { store = read.store }) since.keeps.pool o h mid_stands mid_shows t
            begun.continues.1 begun.may.work work_is table given write fits read.waits since.over before version
            ready.has.stored answered (Some rec) its.0 its.2

        speaks : mid_shows.stands.shows.versions.speaker table.name (written_at table write) ≡ Some rec
        speaks = speaks_there speakers befores follow may_write coded lists m places unask
            (record old { store = read.store }) since.keeps.pool o h mid_stands mid_shows t
            begun.continues.1 begun.may.work work_is table given write fits read.waits since.over before version
            ready.has.stored answered rec its.0

        abbrev mid_there : IsShown mid_shows.stands.shows.layout table
        mid_there = there speakers befores follow may_write coded lists m places unask
            (record old { store = read.store }) since.keeps.pool o h mid_stands mid_shows t
            begun.continues.1 begun.may.work work_is table given write fits read.waits since.over before version
            ready.has.stored answered

        placed : table_at (stands_of mid_shows.stands.shows.layout) rec.page.0 ≡ Some mid_there.its
        placed = placed_there speakers befores follow may_write coded lists m places unask
            (record old { store = read.store }) since.keeps.pool o h mid_stands mid_shows t
            begun.continues.1 begun.may.work work_is table given write fits read.waits since.over before version
            ready.has.stored answered rec its.0

        -- after the entries
        module _ (b : Pool D FireLinks) (enters : EntersRow m read.store b table rec write) where
          e : RowEntered m old read.store b o h t.0 read_over table rec version (row_stored table write)
          e = row_laid stay read.store read_over since.keeps.pool mid_online since.keeps.geometry rec b enters

          geometry_b : IsGeometry b.geometry
          geometry_b = subst IsGeometry (sym (e.geometry ∙ since.keeps.geometry)) core.geometry

          speaks_b : e.now.shows.stands.shows.versions.speaker table.name (written_at table write) ≡ Some rec
          speaks_b = ap (λ (f : List ℕ → Value → Option RecId). f table.name (written_at table write)) e.speaks ∙ speaks

          found_b : HasEntries (shown b.dirty e.now.shows.image) (there speakers befores follow may_write coded lists m places unask
              (record old { store = b }) e.pool o h e.now.over.stands e.now.shows t
              begun.continues.1 begun.may.work work_is table given write fits read.waits since.over before version
              ready.has.stored answered).its
              rec version (row_stored table write)
          found_b = subst (λ (x : Table). HasEntries (shown b.dirty e.now.shows.image) x rec version
              (row_stored table write)) (sym (there_is speakers befores follow may_write coded lists m places unask
              (record old { store = b }) e.pool o h e.now.over.stands e.now.shows t
              begun.continues.1 begun.may.work work_is table given write fits read.waits since.over before version
              ready.has.stored answered)) e.found

      pub pushed : (r : RecId) → before.way ≡ ways.Push r → GoesOnWith m old new o h (made_by t table write) t.0
      pushed r way =
          let its : Facts_at (Some r) = facts_at r (ap record_of way) in
          let (lays, notes_) = laid_at (ways.Push r) way in
          let it : RowEntered m old read.store lays.entered o h t.0 read_over table r version (row_stored table write) =
          e r its lays.entered lays.enters in
          goes_over lays.entered it.now it.pool (it.geometry ∙ since.keeps.geometry)
          (committed_stands speakers befores follow may_write coded lists m places unask
          (record old { store = lays.entered }) it.pool o h it.now.over.stands it.now.shows t
          begun.continues.1 begun.may.work work_is table given write fits read.waits since.over before version
          ready.has.stored answered noted holds
          (geometry_b r its lays.entered lays.enters) new.store one dirs.one_way begin on behind keep_plain go push_on r
          (was r its) (speaks_b r its lays.entered lays.enters)
          (λ newest slot. settled_there speakers befores follow may_write coded lists m places unask
          (record old { store = read.store }) since.keeps.pool o h mid_stands mid_shows t
          begun.continues.1 begun.may.work work_is table given write fits read.waits since.over before version
          ready.has.stored answered r its.0 ways_free its.2 way its.1 newest
          (sym (it.cells r (mid_there r its).its (placed r its)) ∙ slot)) (found_b r its lays.entered lays.enters)
          new.directories notes_ lays.lays)

      pub replaced : (r : RecId) → before.way ≡ ways.Replace r → GoesOnWith m old new o h (made_by t table write) t.0
      replaced r way =
          let its : Facts_at (Some r) = facts_at r (ap record_of way) in
          let (lays, notes_) = laid_at (ways.Replace r) way in
          let it : RowEntered m old read.store lays.entered o h t.0 read_over table r version (row_stored table write) =
          e r its lays.entered lays.enters in
          goes_over lays.entered it.now it.pool (it.geometry ∙ since.keeps.geometry)
          (replaced_stands speakers befores follow may_write coded lists m places unask
          (record old { store = lays.entered }) it.pool o h it.now.over.stands it.now.shows t
          begun.continues.1 begun.may.work work_is table given write fits read.waits since.over before version
          ready.has.stored answered noted holds
          (geometry_b r its lays.entered lays.enters) new.store one dirs.one_way begin on behind keep_plain go replace_on r
          (was r its) (speaks_b r its lays.entered lays.enters) (found_b r its lays.entered lays.enters)
          new.directories notes_ lays.lays)

      -- ---- a record is made

      module _ (still : RowsLastStill D FireLinks m packed_form) (first_on : FirstsGoOn packed_form D FireLinks m)
          (way : before.way ≡ ways.Make) where
        abbrev laid_new : LaysNew m read.store new.store table write version
        laid_new = (laid_at ways.Make way).0

        abbrev at_place : HasTaken m o h (standing_of (record old { store = read.store }) mid_stands.numbers
            mid_stands.tables) old.list read.store laid_new.placed (shown read.store.dirty mid_shows.image)
            (asked_in old.works) (sessions_in old.works) (its_there still way laid_new.placed laid_new.at laid_new.takes).its
            laid_new.at table.name (written_at table write) t.0
        at_place = taken still way laid_new.placed laid_new.at laid_new.takes

        abbrev place_over : StandsOver m old laid_new.placed o h t.0
        place_over = placed_over laid_new.placed (taken_stays still way laid_new.placed laid_new.at laid_new.takes)
            (taken_told still way laid_new.placed laid_new.at laid_new.takes) laid_new.takes.changed.online.1
            (taken_geometry still way laid_new.placed laid_new.at laid_new.takes)

        from_placed : laid_new.placed.geometry ≡ old.store.geometry
        from_placed = taken_geometry still way laid_new.placed laid_new.at laid_new.takes ∙ since.keeps.geometry

        e_new : RowEntered m old laid_new.placed laid_new.makes.entered o h t.0 place_over table laid_new.at version
            (row_stored table write)
        e_new = row_laid stay laid_new.placed place_over laid_new.takes.changed.pool laid_new.takes.changed.online.1
            from_placed laid_new.at laid_new.makes.entered laid_new.makes.enters

        abbrev new_there : IsShown e_new.now.shows.stands.shows.layout table
        new_there = there speakers befores follow may_write coded lists m places unask
            (record old { store = laid_new.makes.entered }) e_new.pool o h e_new.now.over.stands e_new.now.shows t
            begun.continues.1 begun.may.work work_is table given write fits read.waits since.over before version
            ready.has.stored answered

        -- the place is the table's still, and holds nothing; and no version of the key counts
        of_new : table_at (stands_of e_new.now.shows.stands.shows.layout) laid_new.at.page.0 ≡ Some new_there.its
        of_new = e_new.owners laid_new.at.page.0 ∙ (at_place.spot_of.placed
            ∙ ap Some (there_is speakers befores follow may_write coded lists m places unask
            (record old { store = read.store }) since.keeps.pool o h mid_stands mid_shows t
            begun.continues.1 begun.may.work work_is table given write fits read.waits since.over before version
            ready.has.stored answered ∙ sym (there_is speakers befores follow may_write coded lists m places unask
            (record old { store = laid_new.makes.entered }) e_new.pool o h e_new.now.over.stands e_new.now.shows t
            begun.continues.1 begun.may.work work_is table given write fits read.waits since.over before version
            ready.has.stored answered)))

        blank_new : cells_of (shown laid_new.makes.entered.dirty e_new.now.shows.image) laid_new.at ≡ None
        blank_new = e_new.cells laid_new.at (its_there still way laid_new.placed laid_new.at laid_new.takes).its
            at_place.spot_of.placed ∙ at_place.spot_of.blank

        silent_new : IsSilentAt packed_form laid_new.makes.entered.geometry.size o h (standing_of
            (record old { store = laid_new.makes.entered }) e_new.now.over.stands.numbers e_new.now.over.stands.tables)
            (shown laid_new.makes.entered.dirty e_new.now.shows.image) e_new.now.shows.stands.shows table.name
            (written_at table write)
        silent_new chain of = at_place.spot_of.silent chain (subst
            (λ (f : Facts). IsChainOf f at_place.spot_of.stands.shows.reading table.name (written_at table write)
            (at_place.spot_of.stands.shows.versions.speaker table.name (written_at table write)) chain) e_new.facts
            (subst (λ (r : Reading). IsChainOf (facts_by (left_state everyone (said old.list))
            (shown laid_new.makes.entered.dirty e_new.now.shows.image) e_new.now.shows.stands.shows.layout) r table.name
            (written_at table write) (at_place.spot_of.stands.shows.versions.speaker table.name (written_at table write))
            chain) e_new.reads (subst (λ (f : List ℕ → Value → Option RecId). IsChainOf (facts_by
            (left_state everyone (said old.list)) (shown laid_new.makes.entered.dirty e_new.now.shows.image)
            e_new.now.shows.stands.shows.layout) e_new.now.shows.stands.shows.reading table.name (written_at table write)
            (f table.name (written_at table write)) chain) e_new.speaks of)))

        found_new : HasEntries (shown laid_new.makes.entered.dirty e_new.now.shows.image) new_there.its laid_new.at version
            (row_stored table write)
        found_new = subst (λ (x : Table). HasEntries (shown laid_new.makes.entered.dirty e_new.now.shows.image) x
            laid_new.at version (row_stored table write)) (sym (there_is speakers befores follow may_write coded lists m places unask
            (record old { store = laid_new.makes.entered }) e_new.pool o h e_new.now.over.stands e_new.now.shows t
            begun.continues.1 begun.may.work work_is table given write fits read.waits since.over before version
            ready.has.stored answered)) e_new.found

        pub made_new : GoesOnWith m old new o h (made_by t table write) t.0
        made_new = goes_over laid_new.makes.entered e_new.now e_new.pool (e_new.geometry ∙ from_placed)
            (made_stands speakers befores follow may_write coded lists m places unask
            (record old { store = laid_new.makes.entered }) e_new.pool o h e_new.now.over.stands e_new.now.shows t
            begun.continues.1 begun.may.work work_is table given write fits read.waits since.over before version
            ready.has.stored answered noted holds
            (subst IsGeometry (sym (e_new.geometry ∙ from_placed)) core.geometry) new.store one dirs.one_way begin on
            behind keep_plain go first_on (made_was still way laid_new.placed laid_new.at laid_new.takes) laid_new.at
            silent_new of_new blank_new found_new new.directories (laid_at ways.Make way).1 laid_new.makes.lays)

      -- ---- over a dead transaction's version

      module _ (speak : SpeakersOfReadings) (deads : DeadsGo packed_form D FireLinks m) (rec : RecId)
          (way : before.way ≡ ways.PushOverDead rec) where
        abbrev laid_over : LaysOverDead m read.store new.store table rec write version
        laid_over = (laid_at (ways.PushOverDead rec) way).0

        abbrev over_out : HasCleared m o h (standing_of (record old { store = read.store }) mid_stands.numbers
            mid_stands.tables) old.list read.store laid_over.cleared (shown read.store.dirty mid_shows.image)
            (asked_in old.works) (sessions_in old.works) rec table.name (written_at table write) t.0
        over_out = out speak deads rec way laid_over.cleared laid_over.takes

        abbrev clear_over : StandsOver m old laid_over.cleared o h t.0
        clear_over = placed_over laid_over.cleared (out_stays speak deads rec way laid_over.cleared laid_over.takes)
            (out_told speak deads rec way laid_over.cleared laid_over.takes) laid_over.takes.changed.online.1
            (out_geometry speak deads rec way laid_over.cleared laid_over.takes)

        from_cleared : laid_over.cleared.geometry ≡ old.store.geometry
        from_cleared = out_geometry speak deads rec way laid_over.cleared laid_over.takes ∙ since.keeps.geometry

        e_over : RowEntered m old laid_over.cleared laid_over.pushes.entered o h t.0 clear_over table rec version
            (row_stored table write)
        e_over = row_laid stay laid_over.cleared clear_over laid_over.takes.changed.pool
            laid_over.takes.changed.online.1 from_cleared rec laid_over.pushes.entered laid_over.pushes.enters

        abbrev clear_there : IsShown clear_over.shows.stands.shows.layout table
        clear_there = there speakers befores follow may_write coded lists m places unask
            (record old { store = laid_over.cleared }) laid_over.takes.changed.pool o h clear_over.over.stands clear_over.shows t
            begun.continues.1 begun.may.work work_is table given write fits read.waits since.over before version
            ready.has.stored answered

        of_cleared : table_at (stands_of clear_over.shows.stands.shows.layout) rec.page.0 ≡ Some clear_there.its
        of_cleared = spoken_of packed_form laid_over.cleared.geometry.size o h (standing_of
            (record old { store = laid_over.cleared }) clear_over.over.stands.numbers clear_over.over.stands.tables)
            (shown laid_over.cleared.dirty clear_over.shows.image) clear_over.shows.stands.shows table.name
            (written_at table write) rec clear_there.its clear_there.stands clear_there.same.name
            over_out.settled_of.speaks

        found_over : HasEntries (shown laid_over.pushes.entered.dirty e_over.now.shows.image) (there speakers befores follow may_write coded lists m places unask
            (record old { store = laid_over.pushes.entered }) e_over.pool o h e_over.now.over.stands e_over.now.shows t
            begun.continues.1 begun.may.work work_is table given write fits read.waits since.over before version
            ready.has.stored answered).its rec version
            (row_stored table write)
        found_over = subst (λ (x : Table). HasEntries (shown laid_over.pushes.entered.dirty e_over.now.shows.image) x
            rec version (row_stored table write)) (sym (there_is speakers befores follow may_write coded lists m places unask
            (record old { store = laid_over.pushes.entered }) e_over.pool o h e_over.now.over.stands e_over.now.shows t
            begun.continues.1 begun.may.work work_is table given write fits read.waits since.over before version
            ready.has.stored answered)) e_over.found

        pub over_dead : GoesOnWith m old new o h (made_by t table write) t.0
        over_dead = goes_over laid_over.pushes.entered e_over.now e_over.pool (e_over.geometry ∙ from_cleared)
            (committed_stands speakers befores follow may_write coded lists m places unask
            (record old { store = laid_over.pushes.entered }) e_over.pool o h e_over.now.over.stands e_over.now.shows t
            begun.continues.1 begun.may.work work_is table given write fits read.waits since.over before version
            ready.has.stored answered noted holds
            (subst IsGeometry (sym (e_over.geometry ∙ from_cleared)) core.geometry) new.store one dirs.one_way begin on
            behind keep_plain go push_on rec (over_was speak deads rec way laid_over.cleared laid_over.takes)
            (ap (λ (f : List ℕ → Value → Option RecId). f table.name (written_at table write)) e_over.speaks
            ∙ over_out.settled_of.speaks)
            (λ newest slot. over_out.settled_of.settled newest (sym (e_over.cells rec clear_there.its of_cleared) ∙ slot))
            found_over new.directories (laid_at (ways.PushOverDead rec) way).1 laid_over.pushes.lays)
