-- A version is laid by an engine that has read all that the write asks for: what it knows of the entry, of the table and
-- of the row, memory after it, and that it stands for the history with the event.
use Rattle.std.proofs.Common.{◌≡◌, ◌≢◌, ◌⊎◌, inl, inr, ◌==◌, ◌&&◌, ℕ, Bool, true, false, List, [], ◌∷◌, Option, None, Some, refl, sym, ap, ◌∙◌, subst}
use Rattle.std.specs.Prelude.{if◌then◌else◌, is_some, map}
use Rattle.std.proofs.Math.Path.{fun_ext}
use Rattle.std.proofs.lemmas.Bool.{cases_eq, eq-eqb, false≢true, ne_eqb}
use Rattle.std.specs.Cmp.Lexicographic.{same_text}
use Rattle.mg_base.specs.Disk.{Meaning}
use Rattle.mg_base.specs.Image.{Image}
use Rattle.mg_base.specs.declared.geometry.Geometry.{Geometry}
use Rattle.mg_base.specs.declared.numbers.RecId.{RecId}
use Rattle.mg_base.specs.declared.numbers.TxNo.{TxNo}
use Rattle.mg_base.specs.declared.numbers.PageNo.{PageNo}
use Rattle.mg_base.specs.declared.transaction.TxState.TheVariants.{Active, Committed}
use Rattle.mg_value.specs.declared.shape.Shape.{Shape}
use Rattle.mg_value.specs.declared.value.Value.{Value}
use Rattle.mg_model.specs.declared.answer.Answer.TheVariants.{Fine}
use Rattle.mg_model.specs.declared.opening.Opening.{Opening}
use Rattle.mg_model.specs.declared.table.Table.{Table}
use Rattle.mg_model.specs.Answers.{answer, catalog_of, told}
use Rattle.mg_model.specs.Catalog.{catalog_name}
use Rattle.mg_model.specs.Changes.{has_change, same_name}
use Rattle.mg_model.specs.History.{Entries, effect_of}
use Rattle.mg_model.specs.Legal.{is_durable}
use Rattle.mg_model.specs.Machine.{own, state_of, takes_base}
use Rattle.mg_model.specs.Openings.{everyone}
use Rattle.mg_model.specs.ReadLaws.{same_name_itself}
use Rattle.mg_records.specs.Reading.{shape_seen}
use Rattle.mg_records.specs.Writing.{FitsShape, event_of}
use Rattle.mg_records.specs.declared.write.Write.{Write}
use Rattle.mg_records.specs.declared.write.Write.TheVariants as writes
use Rattle.mg_engine_step_laws.specs.standing.Known.{IsShown, KnowsPages, seen_is_shown}
use Rattle.mg_engine_step_laws.specs.reads.AnswersLaws.{SpeakersAreTold, TellsSpeaker}
use Rattle.mg_engine_step_laws.specs.commits.ListShows.{BehindKeepsTips, ListsStay, TipsStayOn}
use Rattle.mg_engine_step_laws.specs.writes.GoesOn.{HasGoneOn, WritesGoOn}
use Rattle.mg_engine_step_laws.specs.writes.GoesOnLaws.{pool_is_kept}
use Rattle.mg_engine_step_laws.specs.writes.Caches.{kept_from}
use Rattle.mg_engine_step_laws.specs.writes.Knowing.{CodesRow, EntersWrite, HasEntries, MayWriteInto, WasChanged}
use Rattle.mg_engine_step_laws.specs.commits.Unasked.{UnaskingLasts}
use Rattle.mg_grown_catalog_laws.specs.Grown.{makes_alone}
use Rattle.mg_image.specs.Form.{Pages, packed_coding, packed_form}
use Rattle.mg_image.specs.Tables.{Stand, stands_of, table_at}
use Rattle.mg_image_overlay_laws.specs.tables.TableOwners.{IsOneOf}
use Rattle.mg_image_overlay_laws.specs.tables.Growing.{IsTableOf}
use Rattle.mg_image_overlay_laws.specs.kept.KeptImages.{IsKept}
use Rattle.mg_image_overlay_laws.specs.names.Whose.{IsTableFor}
use Rattle.mg_lasting_laws.specs.Crashes.{HoldsAcknowledged, LeavesSince, may_last}
use Rattle.mg_lasting_laws.specs.Lasting.{LastsOn}
use Rattle.mg_overlay_laws.specs.Overlays.{left_state}
use Rattle.mg_pool.specs.Pool.{IsPool, shown}
use Rattle.mg_pool.specs.declared.pool.Pool.{Pool}
use Rattle.mg_pool_overlay_laws.specs.Needs.{Asked, Sessions}
use Rattle.mg_row_writes.specs.Befores.{IsBefore}
use Rattle.mg_row_writes.specs.Storing.{IsStored, row_stored, written_at}
use Rattle.mg_row_writes.specs.declared.before.Before.{Before}
use Rattle.mg_seek.specs.Speaking.{IsSpeaker, Speaks}
use Rattle.mg_space.specs.declared.links.FireLinks.{FireLinks}
use Rattle.mg_tie_laws.specs.Changed.{KeptIn, fresh}
use Rattle.mg_engine_step_laws.specs.standing.Following.{FollowsEntry}
use Rattle.mg_engine_step_laws.specs.standing.Standing.{HasFirstPage, Standing, Stands}
use Rattle.mg_engine_step_laws.specs.standing.Writing.{WritesKey}
use Rattle.mg_image_overlay_laws.specs.tables.OneTable.{one_table, stands_in}
use Rattle.mg_txlist.specs.TxList.{said}
use Rattle.mg_undo.specs.Undo.{after_keep}
use Rattle.mg_version.specs.declared.cell.Cell.TheVariants as cells
use Rattle.mg_version.specs.declared.cell.Link.{Link}
use Rattle.mg_version.specs.declared.cell.Version.{Version}
use Rattle.mg_waits.specs.Waits.{NowWaits, edges_in}
use Rattle.mg_works.specs.Works.{Working, given_by, given_to, unasked, with_change, with_work, work_of, written_by}
use Rattle.mg_works.specs.WorksLaws.{with_its, with_others}
use Rattle.mg_core.specs.declared.parts.Core.{Core}
use Rattle.mg_core.specs.Putting.{works_kept}
use Rattle.mg_engine_meaning_laws.specs.Formers.{MayReturn, MayReturnTo}
use Rattle.mg_engine_change_laws.specs.keys.WrittenLaws.{first_in, first_named, first_there, kept_tables_stand}
use Rattle.mg_engine_meaning_laws.specs.PlainTables.{AreFirst, HasPlainTables, IsPlainTable}
use Rattle.mg_engine_meaning_laws.specs.LawfulLaws.{memory_of, tables_are_seen}
use Rattle.mg_engine_meaning_laws.specs.Meaning.{Places}
use Rattle.mg_engine_meaning_laws.specs.Standings.{AreTold, HasTips, KeepsWritten, ShowsIt, StandsFor, StandsWhile, asked_in, asked_kept, mode_kept, session_kept, sessions_in, standing_of, undo_kept, written_kept}
use Rattle.mg_engine_step_laws.specs.writes.Batches.{RowsLastStill}
use Rattle.mg_engine_step_laws.specs.tables_back.OtherIndexes.{as_other, speaker_on}
use Rattle.mg_seek.specs.Readings.{SpeakersOfReadings}
use Rattle.mg_engine_step_laws.specs.writes.Writes.{IsSilentAt}
use Rattle.mg_image.specs.Records.{cells_of}
use Rattle.mg_undo.specs.Machine.{was_in}
use Rattle.mg_engine_step_laws.specs.reads.Walking.{AreToCome}
use Rattle.mg_engine_meaning_laws.specs.StepLaws.{as_standing}
use Rattle.mg_engine_meaning_laws.specs.BasesLaws.{bases_stay}
use Rattle.mg_engine_change_laws.specs.rows.Answered.{no_catalog}
use Rattle.mg_engine_change_laws.specs.rows.Befores.{BeforesAreTold}
use Rattle.mg_engine_change_laws.specs.keys.Clearing.{HasCleared}
use Rattle.mg_engine_change_laws.specs.keys.ClearingLaws.{cleared}
use Rattle.mg_engine_change_laws.specs.rows.Codes.{StoredRowsAreCoded}
use Rattle.mg_entries.specs.Entries.{LaysEntry, PutsEntry}
use Rattle.mg_entry_step_laws.specs.EntryStays.{EntriesStay}
use Rattle.mg_entry_tie_laws.specs.IndexPlaces.{HasRoot}
use Rattle.mg_node.specs.declared.entry.Entry.{Entry}
use Rattle.mg_engine_change_laws.specs.entries.EntryStages.{StaysEntered, entered_stays}
use Rattle.mg_engine_change_laws.specs.rows.Kept.{MadeWritesFollow, NotesWrite, made_by, row_given}
use Rattle.mg_directory.specs.Candidates.{Kept, NotesOrDrops, by_table}
use Rattle.mg_image_overlay_laws.specs.tables.OneLayout.{StandsOneWay}
use Rattle.mg_engine_meaning_laws.specs.KnownRecords.{KnowsIts}
use Rattle.mg_sortkey.specs.KeyBytes.{key_bytes}
use Rattle.mg_engine_change_laws.specs.memory.RecordChanges.{none_noted}
use Rattle.mg_engine_change_laws.specs.rows.Laid.{HasNoted, LeavesPages}
use Rattle.mg_engine_change_laws.specs.rows.Owners.{SeenMayBeWritten}
use Rattle.mg_chain.specs.Writing.{Pushes, Replaces, GivesSpot, MakesRecord, TakesOut}
use Rattle.mg_engine_step_laws.specs.writes.Rows.{DeadsGo, PushesGoOn, ReplacementsGoOn, FirstsGoOn}
use Rattle.mg_engine_step_laws.specs.writes.Spoken.{spoken_of}
use Rattle.mg_image.specs.ReadingLaws.{RowsAreOne}
use Rattle.mg_lasting_laws.specs.PoolLaws.{HoldsOne}
use Rattle.mg_model.specs.Laws.{OpeningsBegin}
use Rattle.mg_pool.specs.Batch.{Changed}
use Rattle.mg_batches.specs.Batches.{ChangesOwn, nothing_yet}
use Rattle.mg_row_writes.specs.Changing.{PushesOver, ReplacesNewest, MakesFirst, TakesNewestOut, TakesPlace}
use Rattle.mg_row_writes.specs.declared.before.Way.TheVariants as ways
use Rattle.mg_seek.specs.Views.{IsObstacle}
use Rattle.mg_space.specs.Taking.{IsGeometry}
use Rattle.mg_space.specs.View.{Tells}
use Rattle.mg_engine_change_laws.specs.rows.Leaving.{pushed_leaves, replaced_leaves, first_leaves}
use Rattle.mg_engine_change_laws.specs.rows.Plain.{WritesKeepPlain}
use Rattle.mg_engine_change_laws.specs.rows.Spots.{HasTaken, spot_taken_by}
use Rattle.mg_engine_change_laws.specs.rows.Walks.{WalkInto}
use Rattle.mg_engine_change_laws.specs.rows.Ways.{WaysAreFree}

-- ---- small facts

first_page_named : (stands : List Stand) (name : List ℕ) (page : ℕ) → HasFirstPage stands name page
    → (x : Table) × (IsOneOf (map (λ stand. stand.table) stands) x × ((x.name ≡ name) × (x.pointer.0 ≡ page)))
first_page_named [] name page is = absurd is
first_page_named (s ∷ ss) name page (inl (named, first)) = (s.table, (inl refl, (named, first)))
first_page_named (s ∷ ss) name page (inr more) =
    let (x, (one, both)) = first_page_named ss name page more in (x, (inr one, both))

passing : (t : TxNo) (table : Table) (write : Write) → is_durable (made_by t table write) ≡ false
passing t table (writes.Insert row) = refl
passing t table (writes.Change key row) = refl
passing t table (writes.Erase key) = refl

no_failure : (t : TxNo) (table : Table) (write : Write) → may_last (made_by t table write) ≡ false
no_failure t table (writes.Insert row) = refl
no_failure t table (writes.Change key row) = refl
no_failure t table (writes.Erase key) = refl

makes : (h : Entries) (t : TxNo) (table : Table) (write : Write) → same_name table.name catalog_name ≡ false
    → makes_alone h (effect_of (made_by t table write)) ≡ true
makes h t table (writes.Insert row) other = rw other refl
makes h t table (writes.Change key row) other = rw other refl
makes h t table (writes.Erase key) other = rw other refl

takes_none : (t : TxNo) (table : Table) (write : Write) (u : ℕ) (snapshot : Bool)
    → takes_base (effect_of (made_by t table write)) u snapshot ≡ false
takes_none t table (writes.Insert row) u snapshot = refl
takes_none t table (writes.Change key row) u snapshot = refl
takes_none t table (writes.Erase key) u snapshot = refl

-- ---- the write

module _ (speakers : SpeakersAreTold) (befores : BeforesAreTold) (follow : MadeWritesFollow)
    (may_write : SeenMayBeWritten) (coded : StoredRowsAreCoded) (lists : ListsStay) {D P : Type 0} (m : Meaning D)
    (places : Places P) (unask : UnaskingLasts packed_form D FireLinks m) (core : Core D) (pool : IsPool m core.store)
    (o : Opening) (h : Entries) (stands : StandsFor m core o h)
    (shows : ShowsIt m core o h (standing_of core stands.numbers stands.tables)) (t : TxNo)
    (counts : said core.list t.0 ≡ Active) (work : Working) (work_is : work_of core.works t.0 ≡ Some work)
    (table : Table) (given : given_to core.works t.0 table.name ≡ Some table) (write : Write)
    (fits : FitsShape table.shape write) (waits : List (ℕ × ℕ))
    (over : NowWaits (edges_in core.waits) (edges_in waits) t.0 None) (before : Before) (v : Version)
    (stored : IsStored table t.0 write v) (answered : answer o h (event_of t table.name write) ≡ Fine) where
  abbrev s : Standing
  s = standing_of core stands.numbers stands.tables

  abbrev pages : Pages
  pages = shown core.store.dirty shows.image

  abbrev size : ℕ
  size = core.store.geometry.size

  abbrev key : Value
  key = written_at table write

  pub is_active : state_of o h t.0 ≡ Active
  is_active = sym ((memory_of m core o h stands).state t.0) ∙ counts

  seen : shape_seen o h t.0 table.name ≡ Some table.shape
  seen = (tables_are_seen m places core o h t.0 table.name table stands is_active given).1

  other : same_name table.name catalog_name ≡ false
  other = no_catalog (catalog_of (told o h) t.0) table.name table.shape seen

  pub there : IsShown shows.stands.shows.layout table
  there = seen_is_shown shows.stands.shows.layout table
      ((shows.stands.shows.tables t.0 counts).seen table.name table (stands.given t.0 table.name table given))

  -- the table stands itself
  table_stands : IsTableOf shows.stands.shows.layout table
  table_stands = stands_in shows.stands.shows.layout table
      (inr ((shows.stands.shows.tables t.0 counts).seen table.name table (stands.given t.0 table.name table given)))

  pub there_is : there.its ≡ table
  there_is = one_table packed_form core.store.geometry.size (left_state everyone (said core.list)) pages
      shows.stands.shows.layout shows.stands.shows.reading shows.stands.shows.sound there.its table there.stands
      table_stands there.same.name

  abbrev pub knows : KnowsPages core.store.geometry.size o h (standing_of core stands.numbers stands.tables)
      (shown core.store.dirty shows.image)
  knows = record { memory = shows.stands.memory; shows = shows.stands.shows }

  -- ---- memory after it

  abbrev pub works_now : List Working
  works_now = works_kept t.0 table.pointer.0 (written_at table write) before.was core.works

  abbrev work_now : Working
  work_now = unasked (with_change table.pointer.0 (written_at table write) before.was work)

  abbrev pub numbers_now : ℕ → List ℕ → ℕ
  numbers_now = λ u n. if (u == t.0) && same_name n table.name then table.pointer.0 else stands.numbers u n

  abbrev pub s_now : Standing
  s_now = standing_of (record core {
    waits = waits;
    works = works_kept t.0 table.pointer.0 (written_at table write) before.was core.works;
  }) numbers_now stands.tables

  kept_work : work_of works_now t.0 ≡ Some work_now
  kept_work = with_its t.0 unasked (λ w. refl) (λ w. refl)
      (with_work t.0 (with_change table.pointer.0 (written_at table write) before.was) core.works)
      (with_change table.pointer.0 (written_at table write) before.was work)
      (with_its t.0 (with_change table.pointer.0 (written_at table write) before.was) (λ w. refl) (λ w. refl)
      core.works work work_is)

  others_work : (u : ℕ) → u ≢ t.0 → work_of works_now u ≡ work_of core.works u
  others_work u ne = with_others t.0 unasked (λ w. refl) (λ w. refl)
      (with_work t.0 (with_change table.pointer.0 (written_at table write) before.was) core.works) u ne
      ∙ with_others t.0 (with_change table.pointer.0 (written_at table write) before.was) (λ w. refl) (λ w. refl)
      core.works u ne

  all_work : {A : Type 0} (f : Option Working → A) → f (Some work_now) ≡ f (Some work) → (u : ℕ)
      → f (work_of works_now u) ≡ f (work_of core.works u)
  all_work f same u = at (cases_eq u t.0)
    where
      at : (u ≡ t.0) ⊎ (u ≢ t.0) → f (work_of works_now u) ≡ f (work_of core.works u)
      at (inl is) = ap (λ (n : ℕ). f (work_of works_now n)) is ∙ (ap f kept_work ∙ (same ∙ (sym (ap f work_is)
          ∙ ap (λ (n : ℕ). f (work_of core.works n)) (sym is))))
      at (inr ne) = ap f (others_work u ne)

  number_here : numbers_now t.0 table.name ≡ table.pointer.0
  number_here = ap (λ (b : Bool). if b then table.pointer.0 else stands.numbers t.0 table.name)
      (ap (λ (b : Bool). b && same_name table.name table.name) (eq-eqb t.0 t.0 refl) ∙ same_name_itself table.name)

  number_else : (n : List ℕ) → n ≢ table.name → numbers_now t.0 n ≡ stands.numbers t.0 n
  number_else n ne = at (same_name n table.name) refl
    where
      at : (b : Bool) → same_name n table.name ≡ b → numbers_now t.0 n ≡ stands.numbers t.0 n
      at true is = absurd (ne (same_text n table.name (sym is)))
      at false off = ap (λ (b : Bool). if b then table.pointer.0 else stands.numbers t.0 n)
          (ap (λ (b : Bool). b && same_name n table.name) (eq-eqb t.0 t.0 refl) ∙ off)

  number_other : (u : ℕ) → u ≢ t.0 → numbers_now u ≡ stands.numbers u
  number_other u ne = fun_ext (λ n. ap (λ (b : Bool).
      if b && same_name n table.name then table.pointer.0 else stands.numbers u n) (ne_eqb u t.0 ne))

  numbered : (k : Value) → has_change (own o h t.0) table.name k ≡ true
      → stands.numbers t.0 table.name ≡ table.pointer.0
  numbered k has =
      let (x, (is_one, (named, first))) = first_page_named (stands_of shows.stands.shows.layout) table.name
      (stands.numbers t.0 table.name) ((shows.stands.shows.tables t.0 counts).changed table.name k has) in
      sym first ∙ (ap (λ (y : Table). y.pointer.0) (one_table packed_form core.store.geometry.size
      (left_state everyone (said core.list)) pages shows.stands.shows.layout shows.stands.shows.reading
      shows.stands.shows.sound x there.its (stands_in shows.stands.shows.layout x is_one) there.stands
      (named ∙ sym there.same.name)) ∙ ap (λ (p : PageNo). p.0) there.same.pointer)

  pub not_asked : asked_in works_now t.0 ≡ false
  not_asked = ap asked_kept kept_work

  -- ---- the cache

  kept_pool : KeptIn packed_form core.store.geometry.size o h (said core.list) (asked_in core.works)
      (sessions_in core.works) core.store shows.image
  kept_pool = kept_from m packed_form o h s core.store shows.image (asked_in core.works) (sessions_in core.works)
      shows.stands.memory pool shows.held shows.lasts

  pub kept_each : (chosen : ℕ → Bool) → IsKept packed_form core.store.geometry.size o h
      (left_state chosen (said core.list)) pages pages
  kept_each chosen = pool_is_kept packed_form D FireLinks core.store.geometry.size o h (said core.list)
      (asked_in core.works) (sessions_in core.works) core.store shows.image chosen kept_pool

  pub lasts_now : LastsOn m packed_form o h core.store
      (asked_in (works_kept t.0 table.pointer.0 (written_at table write) before.was core.works))
      (sessions_in core.works)
  lasts_now = unask o h core.store (asked_in core.works) (asked_in works_now) (sessions_in core.works) t.0 not_asked
      (λ u ne. ap asked_kept (others_work u ne)) shows.lasts

  -- ---- the table, and the row

  pub may : MayWriteInto packed_form core.store.geometry.size (said core.list)
      (shown core.store.dirty shows.image) shows.stands.shows.layout shows.stands.shows.reading t.0 there.its
  may = may_write core.store.geometry.size o h s pages shows.stands t.0 table.name table.shape there.its kept_each
      shows.plain_tables stands.grows is_active seen there.stands there.same.name

  plain_its : IsPlainTable there.its
  plain_its = shows.plain_tables.each everyone shows.stands.shows.layout shows.stands.shows.reading
      shows.stands.shows.sound there.its there.stands

  pub codes : CodesRow packed_coding there.its v (row_stored table write) t.0 (written_at table write)
      (row_given write)
  codes = coded there.its table t.0 write v there.same other
      (subst (λ (x : Shape). AreFirst x.columns) there.same.shape plain_its.first) fits stored

  -- ---- what stands at the key

  pub tells : (rec : Option RecId)
      → IsSpeaker (said core.list) core.live (shown core.store.dirty shows.image) table (written_at table write) rec
      → TellsSpeaker core.store.geometry.size o h (standing_of core stands.numbers stands.tables)
      (shown core.store.dirty shows.image) knows table.name (written_at table write) rec
  tells rec spoken = speakers core.store.geometry.size o h s pages knows table key rec there spoken

  pub was_told : (rec : Option RecId)
      → IsSpeaker (said core.list) core.live (shown core.store.dirty shows.image) table (written_at table write) rec
      → IsBefore (said core.list) core.live t.0 (shown core.store.dirty shows.image) table rec before
      → (before.was ≡ was_in (own o h t.0) table.name (written_at table write))
      × MayReturn table.shape (written_at table write) before.was
  was_told rec spoken is = befores core.store.geometry.size o h s pages knows t table key rec before is_active there
      other (subst (λ (x : Shape). AreFirst x.columns) there.same.shape plain_its.first) (tells rec spoken) is

  -- it is what its own changes have there, and may come back
  abbrev pub WasTold : Type 0
  WasTold = (before.was ≡ was_in (own o h t.0) table.name (written_at table write))
      × MayReturn table.shape (written_at table write) before.was

  module _ (was_is : WasTold) where
    notes : NotesWrite o h t table write s s_now before.was
    notes = record {
      active = is_active;
      seen = seen;
      limit = refl;
      next = refl;
      state = λ u. refl;
      live = refl;
      waits = over;
      others = λ u ne. record {
        mode = ap mode_kept (others_work u ne);
        session = ap session_kept (others_work u ne);
        undo = ap undo_kept (others_work u ne);
        number = number_other u ne;
        table = λ name. refl;
      };
      mode = all_work mode_kept refl t.0;
      session = λ u. all_work session_kept refl u;
      undo = ap undo_kept kept_work ∙ sym (ap (λ (x : Option Working).
          after_keep (undo_kept x) table.pointer.0 (written_at table write) before.was) work_is);
      was_is = was_is.0;
      number = number_here;
      other_numbers = number_else;
      numbered = numbered;
      tables = λ other_. refl;
    }

    followed : FollowsEntry o h (made_by t table write) s s_now
        × WritesKey o h (made_by t table write) t.0 table.name (written_at table write) (row_given write)
    followed = follow o h t table write s s_now before.was shows.stands.memory notes

    pub enters : EntersWrite o h (made_by t table write) (standing_of core stands.numbers stands.tables) s_now
        (asked_in (works_kept t.0 table.pointer.0 (written_at table write) before.was core.works)) t.0 table.name
        (written_at table write) (row_given write) there.its
    enters = record {
      lawful = inl (sym answered);
      passing = passing t table write;
      no_failure = no_failure t table write;
      writes = followed.1;
      active = counts;
      not_asked = not_asked;
      follows = followed.0;
      named = there.same.name;
      number = number_here ∙ sym (ap (λ (p : PageNo). p.0) there.same.pointer);
      other_numbers = number_else;
      seen = λ other_. refl;
    }

  -- of the record that speaks for the key
  module _ (rec : RecId)
      (spoken : IsSpeaker (said core.list) core.live (shown core.store.dirty shows.image) table
      (written_at table write) (Some rec)) where
    pub speaks_there : shows.stands.shows.versions.speaker table.name (written_at table write) ≡ Some rec
    speaks_there = tells (Some rec) spoken

    pub placed_there : table_at (stands_of shows.stands.shows.layout) rec.page.0 ≡ Some there.its
    placed_there = spoken_of packed_form core.store.geometry.size o h s pages shows.stands.shows table.name key rec
        there.its there.stands there.same.name speaks_there

    pub settled_there : WaysAreFree
        → IsBefore (said core.list) core.live t.0 (shown core.store.dirty shows.image) table (Some rec) before
        → before.way ≡ ways.Push rec
        → IsObstacle (said core.list) core.live t.0 (shown core.store.dirty shows.image) rec None → (newest : Link)
        → cells_of (shown core.store.dirty shows.image) rec ≡ Some (cells.Anchor newest)
        → said core.list newest.tx.0 ≡ Committed
    settled_there ways_free is way none newest slot = (ways_free core.store.geometry.size o h s pages shows.stands t.0
        there.its table rec newest before placed_there slot none is).over way

  -- ---- it was laid

  -- its record was noted under the key, in directories that are kept from now on
  abbrev pub NotesIts : Kept → RecId → Type 0
  NotesIts kept rec = NotesOrDrops (by_table core.directories.dirs) (by_table kept.dirs) table.pointer.0
      (key_bytes (written_at table write)) rec

  -- the table that is kept for the first page has the shape
  same_shape : (kept : Table) → written_by (work_of core.works t.0) table.pointer.0 ≡ Some kept
      → kept.shape ≡ table.shape
  same_shape kept is = sym kept_there.same.shape ∙ (ap (λ (x : Table). x.shape) (one_table packed_form
      core.store.geometry.size (left_state everyone (said core.list)) pages shows.stands.shows.layout
      shows.stands.shows.reading shows.stands.shows.sound kept_there.its there.its kept_there.stands there.stands
      (kept_there.same.name ∙ (named ∙ sym there.same.name))) ∙ there.same.shape)
    where
      kept_there : IsShown shows.stands.shows.layout kept
      kept_there = kept_tables_stand o h s t.0 shows.stands.shows.layout core.catalog.pointer.0 core.works
          (shows.stands.shows.tables t.0 counts) stands.kept table.pointer.0 kept is

      first : kept.pointer.0 ≡ table.pointer.0
      first = first_in work.written table.pointer.0 kept
          (sym (ap (λ (w : Option Working). written_by w table.pointer.0) work_is) ∙ is)

      named : kept.name ≡ table.name
      named = first_named core.store.geometry.size (left_state everyone (said core.list)) pages
          shows.stands.shows.layout shows.stands.shows.reading shows.stands.shows.sound table.name table.pointer.0 kept
          (first_there shows.stands.shows.layout table there) kept_there first

  -- what was may come back to it
  returns_to : HasNoted core.works t.0 table → MayReturn table.shape (written_at table write) before.was
      → MayReturnTo (written_by (work_of core.works t.0) table.pointer.0) (written_at table write) before.was
  returns_to noted returns = at (written_by (work_of core.works t.0) table.pointer.0) refl
    where
      at : (x : Option Table) → written_by (work_of core.works t.0) table.pointer.0 ≡ x
          → MayReturnTo (written_by (work_of core.works t.0) table.pointer.0) (written_at table write) before.was
      at None none = absurd (false≢true (sym (ap is_some none) ∙ noted))
      at (Some kept) is = subst (λ (y : Option Table). MayReturnTo y (written_at table write) before.was) (sym is)
          (subst (λ (x : Shape). MayReturn x (written_at table write) before.was) (sym (same_shape kept is)) returns)

  -- the table of the change is kept
  kept_now : HasNoted core.works t.0 table → MayReturn table.shape (written_at table write) before.was
      → KeepsWritten core.catalog.pointer.0 works_now stands.tables
  kept_now noted returns = record {
    seen = λ u x is. stands.kept.seen u x
        (subst (λ (xs : List Table). IsOneOf xs x) (all_work written_kept refl u) is);
    told = λ u. at u (cases_eq u t.0);
  }
    where
      at : (u : ℕ) → (u ≡ t.0) ⊎ (u ≢ t.0) → AreTold core.catalog.pointer.0 (work_of works_now u)
      at u (inl same) = subst (AreTold core.catalog.pointer.0) (sym (ap (work_of works_now) same ∙ kept_work)) (
        inr (subst (λ (w : Option Working). MayReturnTo (written_by w table.pointer.0) (written_at table write) before.was)
            work_is (returns_to noted returns)),
        subst (AreTold core.catalog.pointer.0) work_is (stands.kept.told t.0),
      )
      at u (inr ne) = subst (AreTold core.catalog.pointer.0) (sym (others_work u ne)) (stands.kept.told u)

  pub stood : MayReturn table.shape (written_at table write) before.was → (kept : Kept) (rec : RecId)
      → NotesIts kept rec → HasNoted core.works t.0 table → (after : Pool D FireLinks) (j : Image) → m.held after.disk ≡ Some j → m.tells after.disk ≡ true
      → after.offline ≡ None → after.geometry ≡ core.store.geometry
      → HasGoneOn m packed_form core.store.geometry.size o h (made_by t table write) s_now core.store after j
      (asked_in (works_kept t.0 table.pointer.0 (written_at table write) before.was core.works))
      (sessions_in core.works)
      → LeavesPages core.store.geometry.size s t.0 (shown core.store.dirty shows.image)
      (shown after.dirty j) there.its.pointer.0 (written_at table write) rec
      → StandsFor m (record core {
        store = after;
        waits = waits;
        works = works_kept t.0 table.pointer.0 (written_at table write) before.was core.works;
        directories = kept;
      }) o (made_by t table write ∷ h)
  stood returns kept rec notes noted after j held told online_after geometry goes leaves = record {
    tells = told;
    grows = record { limbo = stands.grows.limbo; entries = (makes h t table write other, stands.grows.entries) };
    bases = bases_stay o h (made_by t table write) (takes_none t table write) stands.bases;
    numbers = numbers_now;
    tables = stands.tables;
    given = λ u n x is. stands.given u n x (sym (all_work (λ (w : Option Working). given_by w n) refl u) ∙ is);
    kept = kept_now noted returns;
    stands = subst (λ (off : Option ℕ). StandsWhile m
        (record core { store = after; waits = waits; works = works_now; directories = kept }) o
        (made_by t table write ∷ h) s_now off) (sym online_after) shown_now;
  }
    where
      shown_now : ShowsIt m (record core { store = after; waits = waits; works = works_now; directories = kept }) o
          (made_by t table write ∷ h) s_now
      shown_now = record {
        image = j;
        held = held;
        stands = subst (λ (g : Geometry). Stands packed_form g.size o (made_by t table write ∷ h) s_now
            (Some (shown after.dirty j))) (sym geometry) goes.stands;
        lasts = subst (λ (f : Sessions). LastsOn m packed_form o (made_by t table write ∷ h) after (asked_in works_now)
            f) (sym (fun_ext (λ u. all_work session_kept refl u))) goes.lasts;
        tips = subst (λ (g : Geometry). HasTips core.list g.size (shown after.dirty j)) (sym geometry)
            (lists core.list core.list core.store.geometry.size pages (shown after.dirty j) refl refl leaves.tips.next
            leaves.tips.tips shows.tips);
        catalog = shows.catalog ∙ sym leaves.tips.catalog;
        plain_tables = subst (λ (g : Geometry). HasPlainTables g.size (said core.list) (shown after.dirty j))
            (sym geometry) leaves.plain;
        no_directory = none_noted (by_table core.directories.dirs) (by_table kept.dirs) table.pointer.0
            (key_bytes (written_at table write)) rec notes core.catalog.pointer.0 shows.no_directory;
        known = subst (λ (g : Geometry). KnowsIts o.next.0 g.size (said core.list) (shown after.dirty j) kept)
            (sym geometry) (leaves.known o.next.0 (by_table core.directories.dirs) (by_table kept.dirs) shows.known
            (subst (λ (p : PageNo). NotesOrDrops (by_table core.directories.dirs) (by_table kept.dirs) p.0
            (key_bytes (written_at table write)) rec) (sym there.same.pointer) notes));
      }

  -- in a batch of its own
  module _ (noted : HasNoted core.works t.0 table) (holds : HoldsOne D m) (geometry : IsGeometry core.store.geometry) (after : Pool D FireLinks) where
    abbrev asked_now : Asked
    asked_now = asked_in (works_kept t.0 table.pointer.0 (written_at table write) before.was core.works)

    abbrev pub Stood : Kept → Type 0
    Stood kept = StandsFor m (record core {
      store = after;
      waits = waits;
      works = works_kept t.0 table.pointer.0 (written_at table write) before.was core.works;
      directories = kept;
    }) o (made_by t table write ∷ h)
        × LeavesSince m core.store.disk after.disk (HoldsAcknowledged packed_form core.store.dirty.size o h)
        × WalkInto m core.store.geometry.size (standing_of core stands.numbers stands.tables)
        (shown core.store.dirty shows.image) after s_now t.0

    told_now : Tells m core.store.disk shows.image
    told_now = record { told = stands.tells; held = shows.held }

    module _ (fills : Image → Changed → Type 0) (own_batch : ChangesOwn m core.store after fills) where
      told_after : m.tells after.disk ≡ true
      told_after = ap m.tells (own_batch.changed.changes.enters.disk ∙ own_batch.changed.changes.puts.disk)
          ∙ (own_batch.changed.changes.written.tells ∙ (own_batch.keeps.disk.tells ∙ stands.tells))

      was : (j : Image) → m.held after.disk ≡ Some j → WasChanged m core.store after shows.image j own_batch.batch
      was j held = record {
        pool = pool;
        changes = record {
          ready = own_batch.ready;
          geometry = geometry;
          keeps = own_batch.keeps;
          frame = own_batch.changed.frame;
          tells = told_now;
          held = held;
        };
        crash = own_batch.changed.crash;
        tells = told_after;
      }

      -- by what is told of the image that the disk has then
      both : MayReturn table.shape (written_at table write) before.was → (kept : Kept) (rec : RecId)
          → NotesIts kept rec → ((j : Image) → m.held after.disk ≡ Some j → WasChanged m core.store after shows.image j own_batch.batch
          → HasGoneOn m packed_form core.store.geometry.size o h (made_by t table write) s_now core.store after j
          asked_now (sessions_in core.works)
          × LeavesPages core.store.geometry.size s t.0 (shown core.store.dirty shows.image)
          (shown after.dirty j) there.its.pointer.0 (written_at table write) rec) → Stood kept
      both returns kept rec notes goes =
          let (j, held, left) = holds after.disk told_after in
          let (gone, leaves) = goes j held (was j held) in (
            stood returns kept rec notes noted after j held told_after own_batch.changed.online.1
                (own_batch.changed.geometry ∙ own_batch.keeps.geometry) gone leaves,
            gone.leaves,
            λ u ne also x from rows next. (
              j,
              held,
              subst (λ (g : Geometry). AreToCome g.size s_now (shown after.dirty j) u x from rows)
                  (sym (own_batch.changed.geometry ∙ own_batch.keeps.geometry)) (as_standing core.store.geometry.size s
                  s_now (shown after.dirty j) u x from rows refl refl (leaves.others u ne also x from rows next)),
            ),
          )

    -- over a committed version of the record that speaks for the key
    module _ (one : RowsAreOne packed_coding) (one_way : StandsOneWay packed_form) (begins : OpeningsBegin) (on : TipsStayOn) (behind : BehindKeepsTips)
        (keep_plain : WritesKeepPlain) (go : WritesGoOn D FireLinks m packed_form)
        (push_on : PushesGoOn packed_form D FireLinks m) (rec : RecId)
        (was_is : WasTold)
        (speaks : shows.stands.shows.versions.speaker table.name (written_at table write) ≡ Some rec)
        (settled : (newest : Link) → cells_of (shown core.store.dirty shows.image) rec ≡ Some (cells.Anchor newest)
        → said core.list newest.tx.0 ≡ Committed)
        (found : HasEntries (shown core.store.dirty shows.image) there.its rec v (row_stored table write)) where
      pub committed_stands : (kept : Kept) → NotesIts kept rec → PushesOver m core.store after rec v → Stood kept
      committed_stands kept notes own_batch = both (λ image batch. Pushes core.store image nothing_yet batch rec v) own_batch
          was_is.1 kept rec notes
          (λ j held changed.
          let pushes : Pushes core.store shows.image fresh own_batch.batch rec v =
          own_batch.filled shows.image told_now in
          let committed : said core.list pushes.newest.tx.0 ≡ Committed =
          settled pushes.newest pushes.head.slot in (
            push_on o h (made_by t table write) s s_now core.store after shows.image j own_batch.batch asked_now
                (sessions_in core.works) shows.stands t.0 table.name key (row_given write) rec v
                (row_stored table write) there.its lasts_now changed pushes (enters was_is) may codes found
                speaks committed,
            pushed_leaves one one_way begins on behind keep_plain m go o h (made_by t table write) s s_now core.store after
                shows.image j own_batch.batch asked_now (sessions_in core.works) shows.stands t.0 table.name key
                (row_given write) rec v (row_stored table write) there.its lasts_now changed (enters was_is) may codes
                found speaks shows.plain_tables pushes committed,
          ))

    -- in place of its own version in the record that speaks for the key
    module _ (one : RowsAreOne packed_coding) (one_way : StandsOneWay packed_form) (begins : OpeningsBegin) (on : TipsStayOn) (behind : BehindKeepsTips)
        (keep_plain : WritesKeepPlain) (go : WritesGoOn D FireLinks m packed_form)
        (replace_on : ReplacementsGoOn packed_form D FireLinks m) (rec : RecId) (was_is : WasTold)
        (speaks : shows.stands.shows.versions.speaker table.name (written_at table write) ≡ Some rec)
        (found : HasEntries (shown core.store.dirty shows.image) there.its rec v (row_stored table write)) where
      pub replaced_stands : (kept : Kept) → NotesIts kept rec → ReplacesNewest m core.store after rec v → Stood kept
      replaced_stands kept notes own_batch = both (λ image batch. Replaces core.store image nothing_yet batch rec v) own_batch
          was_is.1 kept rec notes
          (λ j held changed.
          let replaces : Replaces core.store shows.image fresh own_batch.batch rec v =
          own_batch.filled shows.image told_now in (
            replace_on o h (made_by t table write) s s_now core.store after shows.image j own_batch.batch asked_now
                (sessions_in core.works) shows.stands t.0 table.name key (row_given write) rec v
                (row_stored table write) there.its lasts_now changed replaces (enters was_is) may codes found speaks,
            replaced_leaves one one_way begins on behind keep_plain m go o h (made_by t table write) s s_now core.store after
                shows.image j own_batch.batch asked_now (sessions_in core.works) shows.stands t.0 table.name key
                (row_given write) rec v (row_stored table write) there.its lasts_now changed (enters was_is) may codes
                found speaks shows.plain_tables replaces,
          ))

    -- at a place that was taken
    module _ (one : RowsAreOne packed_coding) (one_way : StandsOneWay packed_form) (begins : OpeningsBegin) (on : TipsStayOn) (behind : BehindKeepsTips)
        (keep_plain : WritesKeepPlain) (go : WritesGoOn D FireLinks m packed_form)
        (first_on : FirstsGoOn packed_form D FireLinks m)
        (was_is : WasTold) (at : RecId)
        (silent : IsSilentAt packed_form core.store.geometry.size o h
        (standing_of core stands.numbers stands.tables) (shown core.store.dirty shows.image) shows.stands.shows
        table.name (written_at table write))
        (of : table_at (stands_of shows.stands.shows.layout) at.page.0 ≡ Some there.its)
        (blank : cells_of (shown core.store.dirty shows.image) at ≡ None)
        (found : HasEntries (shown core.store.dirty shows.image) there.its at v (row_stored table write)) where
      pub made_stands : (kept : Kept) → NotesIts kept at → MakesFirst m core.store after table.pointer.0 at v → Stood kept
      made_stands kept notes own_batch = both (λ image batch. MakesRecord core.store image nothing_yet batch table.pointer.0 at v)
          own_batch was_is.1 kept at notes (λ j held changed.
          let makes : MakesRecord core.store shows.image fresh own_batch.batch there.its.pointer.0 at v =
          subst (λ (n : PageNo). MakesRecord core.store shows.image fresh own_batch.batch n.0 at v)
          (sym there.same.pointer) (own_batch.filled shows.image told_now) in (
            first_on o h (made_by t table write) s s_now core.store after shows.image j own_batch.batch asked_now
                (sessions_in core.works) shows.stands t.0 table.name key (row_given write) at v
                (row_stored table write) there.its lasts_now changed makes (enters was_is) may codes found
                silent of blank,
            first_leaves one one_way begins on behind keep_plain m go o h (made_by t table write) s s_now core.store after
                shows.image j own_batch.batch asked_now (sessions_in core.works) shows.stands t.0 table.name key
                (row_given write) at v (row_stored table write) there.its lasts_now changed (enters was_is) may codes
                found silent of blank shows.plain_tables makes,
          ))

    -- a place is taken, where no version of the key counts
    module _ (one : RowsAreOne packed_coding) (one_way : StandsOneWay packed_form) (begins : OpeningsBegin) (on : TipsStayOn) (behind : BehindKeepsTips)
        (still : RowsLastStill D FireLinks m packed_form)
        (silent : IsSilentAt packed_form core.store.geometry.size o h
        (standing_of core stands.numbers stands.tables) (shown core.store.dirty shows.image) shows.stands.shows
        table.name (written_at table write)) (at : RecId)
        (takes : TakesPlace m core.store after table.pointer.0 at) where
      pub spot_taken : HasTaken m o h (standing_of core stands.numbers stands.tables) core.list core.store after
          (shown core.store.dirty shows.image) (asked_in core.works) (sessions_in core.works) there.its at table.name
          (written_at table write) t.0
      spot_taken =
          let (j, held, left) = holds after.disk
          (told_after (λ image batch. GivesSpot core.store image nothing_yet batch table.pointer.0 at) takes) in
          spot_taken_by one one_way begins on behind lists m still o h s core.store after shows.image j takes.batch core.list
          (asked_in core.works) (sessions_in core.works) shows.stands t.0 there.its at shows.lasts
          (was (λ image batch. GivesSpot core.store image nothing_yet batch table.pointer.0 at) takes j held)
          (subst (λ (n : PageNo). GivesSpot core.store shows.image fresh takes.batch n.0 at) (sym there.same.pointer)
          (takes.filled shows.image told_now))
          counts there.stands may.whose shows.plain_tables kept_each shows.tips table.name key silent
          (takes.changed.geometry ∙ takes.keeps.geometry) held

      pub placed_told : m.tells after.disk ≡ true
      placed_told = told_after (λ image batch. GivesSpot core.store image nothing_yet batch table.pointer.0 at) takes

    -- a dead transaction's version is taken out of the record that speaks for the key
    module _ (one : RowsAreOne packed_coding) (one_way : StandsOneWay packed_form) (on : TipsStayOn) (behind : BehindKeepsTips)
        (keep_plain : WritesKeepPlain) (ways_free : WaysAreFree) (speak : SpeakersOfReadings)
        (deads : DeadsGo packed_form D FireLinks m) (rec : RecId)
        (spoken : IsSpeaker (said core.list) core.live (shown core.store.dirty shows.image) table
        (written_at table write) (Some rec))
        (is : IsBefore (said core.list) core.live t.0 (shown core.store.dirty shows.image) table (Some rec) before)
        (way : before.way ≡ ways.PushOverDead rec)
        (none : IsObstacle (said core.list) core.live t.0 (shown core.store.dirty shows.image) rec None)
        (takes : TakesNewestOut m core.store after rec) where
      dead_of : table_at (stands_of shows.stands.shows.layout) rec.page.0 ≡ Some there.its
      dead_of = spoken_of packed_form core.store.geometry.size o h s pages shows.stands.shows table.name key rec there.its
          there.stands there.same.name (tells (Some rec) spoken)

      dead_speaks : Speaks (said core.list) core.live (shown core.store.dirty shows.image) there.its
          (written_at table write) rec
      dead_speaks = (as_other there.its table there.same
          (λ x. IsSpeaker (said core.list) core.live pages x key (Some rec))
          (speaker_on table there.its.indexes (said core.list) core.live pages key (Some rec) spoken)).speaks.1

      off_catalog : there.its.name ≢ catalog_name
      off_catalog same = false≢true (sym other ∙ (ap (λ (n : List ℕ). same_name n catalog_name)
          (sym there.same.name ∙ same) ∙ same_name_itself catalog_name))

      pub dead_cleared : HasCleared m o h (standing_of core stands.numbers stands.tables) core.list core.store after
          (shown core.store.dirty shows.image) (asked_in core.works) (sessions_in core.works) rec table.name
          (written_at table write) t.0
      dead_cleared =
          let (j, held, left) = holds after.disk
          (told_after (λ image batch. TakesOut core.store image nothing_yet batch rec) takes) in
          let out : TakesOut core.store shows.image fresh takes.batch rec = takes.filled shows.image told_now in
          subst (λ (n : List ℕ). HasCleared m o h s core.list core.store after pages (asked_in core.works)
          (sessions_in core.works) rec n key t.0) there.same.name
          (cleared one one_way on behind lists keep_plain speak m deads o h s core.store after shows.image j takes.batch
          core.list (asked_in core.works) (sessions_in core.works) shows.stands t.0 there.its rec key shows.lasts
          (was (λ image batch. TakesOut core.store image nothing_yet batch rec) takes j held) out counts
          ((ways_free core.store.geometry.size o h s pages shows.stands t.0 there.its table rec out.newest before
          dead_of out.its.head.slot none is).over_dead way)
          may off_catalog shows.plain_tables kept_each shows.tips dead_of dead_speaks
          (takes.changed.geometry ∙ takes.keeps.geometry) held)

      pub cleared_told : m.tells after.disk ≡ true
      cleared_told = told_after (λ image batch. TakesOut core.store image nothing_yet batch rec) takes

    -- an entry is laid in one of the table's indexes
    module _ (one : RowsAreOne packed_coding) (one_way : StandsOneWay packed_form)
        (stay : EntriesStay packed_form D FireLinks m) (root : ℕ) (e : Entry) (has : HasRoot table.indexes root)
        (lays : LaysEntry m core.store after root e) where
      pub entry_laid : StaysEntered m o h (standing_of core stands.numbers stands.tables) core.list core.store after
          (shown core.store.dirty shows.image) shows.stands.shows.layout shows.stands.shows.reading
          shows.stands.shows.versions.speaker table.indexes (asked_in core.works) (sessions_in core.works) t.0 root e
      entry_laid =
          let (j, held, left) = holds after.disk
          (told_after (λ image batch. PutsEntry core.store image nothing_yet batch root e) lays) in
          entered_stays one one_way lists m stay o h s core.store after shows.image j lays.batch core.list
          (asked_in core.works) (sessions_in core.works) shows.stands t.0 table root e shows.lasts
          (was (λ image batch. PutsEntry core.store image nothing_yet batch root e) lays j held)
          (lays.filled shows.image told_now) counts table_stands has
          (subst (λ (x : Table). IsTableFor packed_form core.store.geometry.size t.0 (said core.list) pages x) there_is
          may.whose) shows.plain_tables kept_each shows.tips
          (lays.changed.geometry ∙ lays.keeps.geometry) held

      pub entry_told : m.tells after.disk ≡ true
      entry_told = told_after (λ image batch. PutsEntry core.store image nothing_yet batch root e) lays
