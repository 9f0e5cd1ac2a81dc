-- A transaction is taken back to a point, over tables that it had made: memory and pages of its engine afterwards.
use Rattle.std.proofs.Common.{◌≡◌, ◌≢◌, ◌⊎◌, ◌==◌, inl, inr, ap, refl, sym, subst, ◌∙◌, ℕ, Bool, true, false, List, [], ◌∷◌, Option, None, Some}
use Rattle.std.proofs.Math.Path.{fun_ext}
use Rattle.std.proofs.lemmas.Bool.{cases_eq, eq-eqb, false≢true, ne_eqb}
use Rattle.std.specs.Prelude.{if◌then◌else◌, map}
use Rattle.mg_base.specs.Disk.{Meaning}
use Rattle.mg_base.specs.Image.{Image}
use Rattle.mg_base.specs.declared.numbers.RecId.{RecId}
use Rattle.mg_base.specs.declared.transaction.TxState.TheVariants.{Active}
use Rattle.mg_core.specs.Cores.{Continues, IsCore, IsCatalog}
use Rattle.mg_core.specs.declared.parts.Core.{Core}
use Rattle.mg_directory.specs.Candidates.{by_table}
use Rattle.mg_engine_meaning_laws.specs.KnownRecords.{KnowsIts}
use Rattle.mg_engine_change_laws.specs.memory.Directories.{StaysKnown}
use Rattle.mg_engine_change_laws.specs.memory.RecordChanges.{left_known}
use Rattle.mg_engine_change_laws.specs.backs.BackLaws.{all_kept, going_kept}
use Rattle.mg_engine_change_laws.specs.keys.BackLists.{KeepsLists, KeysKeepLists}
use Rattle.mg_engine_change_laws.specs.keys.BackPages.{KeysKeepPages}
use Rattle.mg_engine_change_laws.specs.keys.BackWalks.{BackWalksGoOn}
use Rattle.mg_engine_change_laws.specs.keys.Keys.{CoresTakeAll, HasTakenKeys}
use Rattle.mg_engine_change_laws.specs.keys.TakingSteps.{StandsMidway, TakesKeysOf, no_keys, one_entry, one_key, some_read}
use Rattle.mg_engine_change_laws.specs.backs.ToTake.{EachChange, KeysAreTaken, SinceAreTaken, since_point}
use Rattle.mg_engine_meaning_laws.specs.KeptLaws.{kept_with_work}
use Rattle.mg_engine_meaning_laws.specs.PlainLaws.{plain_tables_from}
use Rattle.mg_engine_meaning_laws.specs.PlainTables.{HasPlainTables}
use Rattle.mg_engine_meaning_laws.specs.Standings.{AreOfKept, AreSeen, AreTold, HasTips, KeepsWritten, ShowsIt, StandsFor, StandsWhile, asked_in, asked_kept, mode_kept, session_kept, sessions_in, standing_of, undo_kept, written_kept, SeesIt}
use Rattle.mg_engine_meaning_laws.specs.StepLaws.{shows_of}
use Rattle.mg_engine_meaning_laws.specs.BasesLaws.{bases_stay}
use Rattle.mg_engine_step_laws.specs.standing.Following.{FollowsEntry}
use Rattle.mg_engine_step_laws.specs.writes.GoesOn.{HasGoneOn}
use Rattle.mg_engine_step_laws.specs.commits.ListShows.{ListsStay}
use Rattle.mg_engine_step_laws.specs.standing.Standing.{Standing, Stands, IsSeenAs, RemembersOne}
use Rattle.mg_engine_step_laws.specs.reads.Walking.{AreToCome, WalkPlace}
use Rattle.mg_engine_step_laws.specs.tables_back.ChangedTables.{NoneOfGone}
use Rattle.mg_engine_step_laws.specs.tables_back.EngineTables.{EnginesTakeTables}
use Rattle.mg_engine_step_laws.specs.tables_back.LeftFinds.{SeesRow, sees_row}
use Rattle.mg_engine_step_laws.specs.tables_back.Outs.{is_among}
use Rattle.mg_engine_step_laws.specs.tables_back.ShapesLeft.{table_left}
use Rattle.mg_engine_step_laws.specs.tables_back.TablesBack.{AreRowsLeft, TablesAreTaken, TakesOnPages}
use Rattle.mg_engine_step_laws.specs.backs.Again.{without_key, AreTaken}
use Rattle.mg_engine_step_laws.specs.backs.Midway.{GoesBack, IsMidway, MidwaysBegin}
use Rattle.mg_engine_step_laws.specs.backs.MidwayLaws.{lasts_of}
use Rattle.mg_engine_step_laws.specs.standing.OwnChains.{newest_second}
use Rattle.mg_engine_step_laws.specs.backs.Shown.{ShowsFirst}
use Rattle.mg_engine_step_laws.specs.commits.Unasked.{UnaskingLasts}
use Rattle.mg_grown_catalog_laws.specs.Grown.{makes_alone, SeenIsNotMade}
use Rattle.mg_grown_catalog_laws.specs.MadeOnce.{AreMadeOnce, RowsAreMadeOnce}
use Rattle.mg_grown_catalog_laws.specs.Together.{AreTogether, RowsAreTogether}
use Rattle.mg_engine_change_laws.specs.tables_back.MadeSinceLaws.{since_is_new}
use Rattle.mg_header.specs.HeaderPage.{header_in}
use Rattle.mg_image.specs.Form.{Pages, packed_form}
use Rattle.mg_image.specs.Histories.{newest_at}
use Rattle.mg_image.specs.Inventory.{header_of}
use Rattle.mg_image.specs.Tables.{Stand, stands_of}
use Rattle.mg_image_overlay_laws.specs.kept.KeptImages.{AreFrontStands}
use Rattle.mg_image_overlay_laws.specs.tables.TableOwners.{IsOneOf}
use Rattle.mg_lasting_laws.specs.Crashes.{HoldsAcknowledged, LeavesSince}
use Rattle.mg_lasting_laws.specs.Lasting.{LastsOn}
use Rattle.mg_model.specs.Answers.{is_open}
use Rattle.mg_model.specs.Catalog.{catalog_name, table_key}
use Rattle.mg_model.specs.Changes.{KeyedRows, has_change, is_at, row_at}
use Rattle.mg_model.specs.Effects.{doer, is_its}
use Rattle.mg_model.specs.History.{Effect, Entries, Entry}
use Rattle.mg_model.specs.Laws.{OpeningsBegin}
use Rattle.mg_model.specs.Legal.{MayBegin}
use Rattle.mg_model.specs.Machine.{deeds_by, is_of, own, state_of, steps, takes_base, view}
use Rattle.mg_model.specs.Openings.{everyone}
use Rattle.mg_model.specs.declared.change.Change.{Change}
use Rattle.mg_model.specs.declared.change.Point.{Point}
use Rattle.mg_model.specs.declared.change.Point.TheVariants.{LastMark, SavepointNamed}
use Rattle.mg_model.specs.declared.opening.Opening.{Opening}
use Rattle.mg_model.specs.declared.table.Table.{Table}
use Rattle.mg_overlay_laws.specs.Overlays.{left_state}
use Rattle.mg_pool.specs.Pool.{shown}
use Rattle.mg_pool.specs.declared.pool.Pool.{Pool}
use Rattle.mg_pool_overlay_laws.specs.Needs.{Asked, Sessions}
use Rattle.mg_records.specs.Reading.{shape_seen}
use Rattle.mg_space.specs.declared.links.FireLinks.{FireLinks}
use Rattle.mg_image_overlay_laws.specs.tables.OneLayout.{StandsOneWay}
use Rattle.mg_table_takings.specs.Keys.{AreKeysGiven}
use Rattle.mg_table_takings.specs.Takings.{TakesTablesTo, works_left, TakesBoth}
use Rattle.mg_taking_back.specs.Taking.{TakesChanges, not_asking}
use Rattle.mg_txlist.specs.TxList.{said}
use Rattle.mg_undo.specs.Machine.{undo_of, GivesWhatWas, given_from, first_of, going_to, changes_of}
use Rattle.mg_undo.specs.Undo.{State as Undo, TakesBack as GivesAll, after_back_to, has_point}
use Rattle.mg_undo.specs.Whole.{is_one_of}
use Rattle.mg_undo.specs.declared.changes.Change.{Change as Kept}
use Rattle.mg_value.specs.declared.value.Value.{Value}
use Rattle.mg_works.specs.Works.{Working, given_by, given_to, unasked, with_undo, with_work, without_tables, work_of, without_written, tables_left}
use Rattle.mg_works.specs.WorksLaws.{with_its, with_others}
use Rattle.mg_engine_change_laws.specs.tables_back.CoreRows.{CoresTakeRows, HasTakenRows}
use Rattle.mg_engine_change_laws.specs.tables_back.EngineOver.{EnginesGoOver, IsBackEntry, OthersWalkOver}
use Rattle.mg_engine_change_laws.specs.tables_back.KeptOverLaws.{left_one, told_left}
use Rattle.mg_engine_change_laws.specs.tables_back.ListsTell.{KeysGoWhole}
use Rattle.mg_engine_change_laws.specs.tables_back.ListsTellLaws.{keys_go_whole}
use Rattle.mg_engine_change_laws.specs.tables_back.OverGiven.{each_of_table, each_own, given_is as is_given, keys_are as keys_given, number_is as catalog_number, others_are, tells as tells_catalog}
use Rattle.mg_engine_change_laws.specs.tables_back.RowsGiven.{GivenApart, RowsAreLeft, TellsCatalog, of_catalog, of_others}
use Rattle.mg_engine_change_laws.specs.tables_back.RowsGivenLaws.{one_test}
use Rattle.mg_engine_change_laws.specs.tables_back.TablesMemory.{IsBackOverTables, TablesFollow}
use Rattle.mg_engine_change_laws.specs.tables_back.TablesWalks.{TablesWalksGoOn}

-- ---- lists

-- what is left was there before
without_fewer : (name : List ℕ) (key : Value) (cs : List Change) (n : List ℕ) (k : Value)
    → has_change (without_key name key cs) n k ≡ true → has_change cs n k ≡ true
without_fewer name key [] n k has = has
without_fewer name key (c ∷ cs) n k has = at (is_at c name key) has (without_fewer name key cs n k)
  where
    or_true : (b x : Bool) → x ≡ true → (if b then true else x) ≡ true
    or_true true x is = refl
    or_true false x is = is

    by : (b : Bool) → (if b then true else has_change (without_key name key cs) n k) ≡ true
        → (has_change (without_key name key cs) n k ≡ true → has_change cs n k ≡ true)
        → (if b then true else has_change cs n k) ≡ true
    by true has_ more = refl
    by false has_ more = more has_

    at : (b : Bool)
        → has_change (if b then without_key name key cs else c ∷ without_key name key cs) n k ≡ true
        → (has_change (without_key name key cs) n k ≡ true → has_change cs n k ≡ true)
        → (if is_at c n k then true else has_change cs n k) ≡ true
    at true has_ more = or_true (is_at c n k) (has_change cs n k) (more has_)
    at false has_ more = by (is_at c n k) has_ more

pub rest_within : {D L : Type 0} (m : Meaning D) (size : ℕ) (o : Opening) (h : Entries) (e : Entry) (t : ℕ) (s : Standing)
    (speaker : List ℕ → Value → Option RecId) (keys left rest : List Change) (before after : Pool D L) (i j : Image)
    → TakesKeysOf m size o h e t s speaker keys left rest before after i j → (name : List ℕ) (key : Value)
    → has_change rest name key ≡ true → has_change left name key ≡ true
rest_within m size o h e t s speaker keys left rest before after i j no_keys name key has = has
rest_within m size o h e t s speaker all left rest before after i j (one_key {keys = keys} c mid k taken more) name key has =
    without_fewer c.table c.key left name key (rest_within m size o h e t s speaker keys (without_key c.table c.key left)
    rest mid after k j more name key has)
rest_within m size o h e t s speaker all left rest before after i j (some_read mid keeps tells page_size more) name key has =
    rest_within m size o h e t s speaker all left rest mid after i j more name key has
rest_within m size o h e t s speaker all left rest before after i j (one_entry mid k laid more) name key has =
    rest_within m size o h e t s speaker all left rest mid after k j more name key has

-- ---- the engine

module _ {D : Type 0} (m : Meaning D) (openings : OpeningsBegin) (unask : UnaskingLasts packed_form D FireLinks m)
    (lists : ListsStay) (since : SinceAreTaken) (begin : MidwaysBegin packed_form D FireLinks m)
    (first_shows : ShowsFirst packed_form) (what_was : GivesWhatWas) (keys_law : KeysAreTaken) (apart : GivenApart)
    (rows_law : RowsAreLeft) (once : RowsAreMadeOnce) (together : RowsAreTogether) (takes_all : CoresTakeAll D m) (keep : KeysKeepLists D FireLinks m)
    (rows_taken : CoresTakeRows D m) (follow : TablesFollow) (engines : EnginesTakeTables D FireLinks m)
    (pages_taken : TablesAreTaken D FireLinks m) (none_left : NoneOfGone) (one_way : StandsOneWay packed_form)
    (old new : Core D) (t : ℕ)
    (point : Point) (o : Opening) (h : Entries) (e : Entry) (core : IsCore m old) (takes : TakesTablesTo m old new t point)
    (stands : StandsFor m old o h) (is : IsBackEntry o h e t point)
    (shows : ShowsIt m old o h (standing_of old stands.numbers stands.tables)) where
  abbrev s : Standing
  s = standing_of old stands.numbers stands.tables

  abbrev pages : Pages
  pages = shown old.store.dirty shows.image

  abbrev size : ℕ
  size = old.store.geometry.size

  abbrev page : ℕ
  page = old.catalog.pointer.0

  abbrev whole : List Change
  whole = since_point point (deeds_by t (steps o h))

  abbrev firsts : List Change
  firsts = first_of (since_point point (deeds_by t (steps o h)))

  abbrev keys : List Value
  keys = takes.takes.keys

  continues : Continues old t
  continues = takes.has_begun.continues

  work_is : work_of old.works t ≡ Some takes.has_begun.its.0
  work_is = takes.has_begun.its.1

  abbrev begun_works : List Working
  begun_works = with_work t unasked old.works

  abbrev begun : Core D
  begun = record old { waits = takes.begun.waits; works = with_work t unasked old.works }

  begun_is : not_asking t takes.begun ≡ record begun { store = old.store }
  begun_is = ap (λ (c : Core D). not_asking t c) takes.has_begun.ended.same

  both : TakesBoth m (record begun { store = old.store }) takes.takes.taken t (going_to takes.undo point) takes.takes.end
      takes.takes.keys
  both = subst (λ (c : Core D). TakesBoth m c takes.takes.taken t (going_to takes.undo point) takes.takes.end
      takes.takes.keys) begun_is takes.takes.takes

  rows_to : AreKeysGiven old.catalog.pointer.0 (going_to takes.undo point) takes.takes.keys
  rows_to = subst (λ (c : Core D). AreKeysGiven c.catalog.pointer.0 (going_to takes.undo point) takes.takes.keys)
      takes.has_begun.ended.same takes.takes.rows

  -- ---- works

  begun_work : work_of (with_work t unasked old.works) t ≡ Some (unasked takes.has_begun.its.0)
  begun_work = with_its t unasked (λ w. refl) (λ w. refl) old.works takes.has_begun.its.0 work_is

  abbrev end : Undo
  end = takes.takes.end

  abbrev works_now : List Working
  works_now = works_left t takes.takes.end takes.takes.keys (with_work t unasked old.works)

  abbrev work_now : Working
  work_now = without_tables (without_written takes.takes.keys (with_undo takes.takes.end (unasked takes.has_begun.its.0)))

  its_work : work_of works_now t ≡ Some work_now
  its_work = with_its t without_tables (λ w. refl) (λ w. refl)
      (with_work t (without_written takes.takes.keys) (with_work t (with_undo takes.takes.end) (with_work t unasked old.works)))
      (without_written takes.takes.keys (with_undo takes.takes.end (unasked takes.has_begun.its.0)))
      (with_its t (without_written takes.takes.keys) (λ w. refl) (λ w. refl)
      (with_work t (with_undo takes.takes.end) (with_work t unasked old.works))
      (with_undo takes.takes.end (unasked takes.has_begun.its.0))
      (with_its t (with_undo takes.takes.end) (λ w. refl) (λ w. refl) (with_work t unasked old.works)
      (unasked takes.has_begun.its.0) begun_work))

  others_work : (u : ℕ) → u ≢ t → work_of works_now u ≡ work_of old.works u
  others_work u ne = with_others t without_tables (λ w. refl) (λ w. refl)
      (with_work t (without_written takes.takes.keys) (with_work t (with_undo takes.takes.end) (with_work t unasked old.works)))
      u ne
      ∙ (with_others t (without_written takes.takes.keys) (λ w. refl) (λ w. refl)
      (with_work t (with_undo takes.takes.end) (with_work t unasked old.works)) u ne
      ∙ (with_others t (with_undo takes.takes.end) (λ w. refl) (λ w. refl) (with_work t unasked old.works) u ne
      ∙ with_others t unasked (λ w. refl) (λ w. refl) old.works u ne))

  all_work : {A : Type 0} (f : Option Working → A) → f (Some work_now) ≡ f (Some takes.has_begun.its.0) → (u : ℕ)
      → f (work_of works_now u) ≡ f (work_of old.works u)
  all_work f same u = at (cases_eq u t)
    where
      at : (u ≡ t) ⊎ (u ≢ t) → f (work_of works_now u) ≡ f (work_of old.works u)
      at (inl e_) = ap (λ (n : ℕ). f (work_of works_now n)) e_ ∙ (ap f its_work ∙ (same ∙ (sym (ap f work_is)
          ∙ ap (λ (n : ℕ). f (work_of old.works n)) (sym e_))))
      at (inr ne) = ap f (others_work u ne)

  asked_same : (u : ℕ) → asked_in works_now u ≡ asked_in (with_work t unasked old.works) u
  asked_same u = at (cases_eq u t)
    where
      at : (u ≡ t) ⊎ (u ≢ t) → asked_in works_now u ≡ asked_in (with_work t unasked old.works) u
      at (inl e_) = ap (asked_in works_now) e_ ∙ (ap asked_kept its_work ∙ (sym (ap asked_kept begun_work)
          ∙ ap (asked_in (with_work t unasked old.works)) (sym e_)))
      at (inr ne) = ap asked_kept (others_work u ne
          ∙ sym (with_others t unasked (λ w. refl) (λ w. refl) old.works u ne))

  not_asked : asked_in (with_work t unasked old.works) t ≡ false
  not_asked = ap asked_kept begun_work

  sessions_same : sessions_in works_now ≡ sessions_in old.works
  sessions_same = fun_ext (λ u. all_work session_kept refl u)

  -- ---- the beginning

  opening : MayBegin o
  opening = openings o shows.stands.opening

  goes : GoesBack o h e point s (asked_in (with_work t unasked old.works)) t
  goes = record {
    back = is.back;
    passing = is.passing;
    no_failure = is.no_failure;
    active = continues.1;
    not_asked = not_asked;
    ends = is.ends;
  }

  asks_not : LastsOn m packed_form o h old.store (asked_in (with_work t unasked old.works)) (sessions_in old.works)
  asks_not = unask o h old.store (asked_in old.works) (asked_in (with_work t unasked old.works))
      (sessions_in old.works) t not_asked
      (λ u ne. ap asked_kept (with_others t unasked (λ w. refl) (λ w. refl) old.works u ne)) shows.lasts

  all_taken : AreTaken o h e t whole
  all_taken = since o h e t point is.back

  midway : StandsMidway m size o h e t whole whole s old.store old.store pages shows.stands.shows shows.image
      (asked_in (with_work t unasked old.works)) (sessions_in old.works)
  midway = record {
    cache = begin o h e point s old.store shows.image (asked_in (with_work t unasked old.works))
        (sessions_in old.works) t whole shows.stands asks_not core.pool shows.held stands.tells goes all_taken;
    pages = first_shows size o h e t whole s pages shows.stands.shows;
  }

  kept_begun : KeepsWritten old.catalog.pointer.0 (with_work t unasked old.works) stands.tables
  kept_begun = kept_with_work t unasked (λ w. refl) (λ w. refl) (λ w. refl) (λ w. refl) old.works
      old.catalog.pointer.0 stands.tables stands.kept

  undo_is : takes.undo ≡ s.undo t
  undo_is = sym takes.has_begun.its.2 ∙ sym (ap undo_kept work_is)

  given_steps : GivesAll (going_to (s.undo t) point) both.others.given takes.takes.end
  given_steps = subst (λ (u : Undo). GivesAll (going_to u point) both.others.given takes.takes.end) undo_is
      both.others.steps

  -- ---- what is given

  abbrev left_own : List Change
  left_own = own o (e ∷ h) t

  given_is : both.others.given ≡ map (given_from (s.number t) (own o (e ∷ h) t)) firsts
  given_is = is_given m what_was keys_law apart old t point o h e stands shows continues.1 is.back is.may both.others.given
      takes.takes.end given_steps

  made : EachChange (λ c. has_change (own o h t) c.table c.key ≡ true) firsts
  made = each_own m what_was keys_law apart old t point o h e stands shows continues.1 is.back is.may both.others.given
      takes.takes.end given_steps

  number_is : (key : Value) → has_change (own o h t) catalog_name key ≡ true → s.number t catalog_name ≡ page
  number_is = catalog_number m what_was keys_law apart old t point o h e stands shows continues.1 is.back is.may both.others.given
      takes.takes.end given_steps

  tells : TellsCatalog (s.number t) page firsts
  tells = tells_catalog m what_was keys_law apart old t point o h e stands shows continues.1 is.back is.may both.others.given
      takes.takes.end given_steps

  keys_are : takes.takes.keys ≡ map (λ c. c.key) (of_catalog firsts)
  keys_are = rows_to both.others.given takes.takes.end both.others.steps
      ∙ keys_given m what_was keys_law apart old t point o h e stands shows continues.1 is.back is.may both.others.given
      takes.takes.end given_steps

  -- no row of the catalog is made twice, and the rows of a table are made together
  made_once : AreMadeOnce (own o h t)
  made_once = once o h t shows.stands.opening opening shows.stands.legal stands.grows

  are_together : AreTogether (deeds_by t (steps o h))
  are_together = together o h t shows.stands.opening opening shows.stands.legal stands.grows
      (sym (shows.stands.memory.state t) ∙ continues.1)

  new_in : EachChange (λ c. c.table ≡ catalog_name → newest_at (own o (e ∷ h) t) catalog_name c.key ≡ None) firsts
  new_in = since_is_new o h e t point is.back made_once

  goes_whole : KeysGoWhole (own o h t) (map (λ c. c.key) (of_catalog firsts))
  goes_whole = keys_go_whole point (deeds_by t (steps o h)) are_together made_once (keys_law.first whole)

  -- ---- the changes of other tables

  takes_others : TakesChanges m t (record begun { store = old.store })
      (map (given_from (s.number t) (own o (e ∷ h) t)) (of_others firsts)) both.mid
  takes_others = subst (λ (cs : List Kept). TakesChanges m t (record begun { store = old.store }) cs both.mid)
      (others_are m what_was keys_law apart old t point o h e stands shows continues.1 is.back is.may both.others.given
      takes.takes.end given_steps)
      both.others.takes

  taken : HasTakenKeys m size o h e t whole whole (of_others firsts) (of_catalog firsts) s old.store old.store pages
      shows.stands.shows shows.image (asked_in (with_work t unasked old.works)) (sessions_in old.works) begun both.mid
  taken = takes_all begun (record begun { store = old.store }) both.mid s size o h e point t whole whole (of_others firsts)
      (of_catalog firsts) old.store old.store pages shows.stands.shows shows.image
      (asked_in (with_work t unasked old.works)) (sessions_in old.works) refl refl opening shows.stands.legal
      shows.stands.memory goes kept_begun (each_of_table m what_was keys_law apart old t point o h e stands shows continues.1 is.back is.may both.others.given
      takes.takes.end given_steps)
      (apart.all firsts whole (keys_law.first whole)) refl takes_others midway
      (record {
        pool_is = core.pool;
        size_is = refl;
        geometry = core.geometry;
        online = continues.0;
        tells = record { told = stands.tells; held = shows.held };
        plain = shows.plain_tables;
      }) shows.catalog

  rows_left : AreRowsLeft o h e t taken.rest takes.takes.keys
  rows_left = subst (AreRowsLeft o h e t taken.rest) (sym keys_are)
      (rows_law o h e t firsts whole taken.rest all_taken
      (rest_within m size o h e t s shows.stands.shows.versions.speaker (of_others firsts) whole taken.rest old.store
      both.mid.store shows.image taken.image taken.steps) taken.to_come made new_in goes_whole)

  same_else : (key : Value) → is_among takes.takes.keys key ≡ false
      → newest_at (own o (e ∷ h) t) catalog_name key ≡ newest_at (own o h t) catalog_name key
  same_else key off =
      let none : newest_at whole catalog_name key ≡ None = apart.none firsts whole (keys_law.first whole) key
      (ap (λ (ks : List Value). is_among ks key) (sym keys_are) ∙ off) in
      sym (newest_second whole (own o (e ∷ h) t) catalog_name key none) ∙ all_taken catalog_name key

  -- ---- the rows

  mid_catalog : both.mid.catalog ≡ old.catalog
  mid_catalog = ap (λ (c : Core D). c.catalog) taken.same

  midway_mid : IsMidway m packed_form both.mid.store.geometry.size o h e t taken.rest s old.store both.mid.store taken.image
      (asked_in (with_work t unasked old.works)) (sessions_in old.works)
  midway_mid = subst (λ (n : ℕ). IsMidway m packed_form n o h e t taken.rest s old.store both.mid.store taken.image
      (asked_in (with_work t unasked old.works)) (sessions_in old.works)) (sym taken.knows.size_is) taken.midway.cache

  rows : HasTakenRows m s t takes.takes.keys both.mid takes.takes.taken taken.image
  rows = rows_taken o h e point s old.store (asked_in (with_work t unasked old.works)) (sessions_in old.works) t
      takes.takes.keys both.mid takes.takes.taken taken.image opening shows.stands.legal shows.stands.memory goes
      (lasts_of m packed_form both.mid.store.geometry.size o h e t taken.rest s old.store both.mid.store taken.image
      (asked_in (with_work t unasked old.works)) (sessions_in old.works) midway_mid) (subst IsCatalog (sym mid_catalog) core.catalog)
      (sym (ap (λ (c : Core D). said c.list) taken.same)) (sym (ap (λ (c : Core D). c.live) taken.same)) (record {
        pool_is = taken.knows.pool_is;
        geometry = taken.knows.geometry;
        online = taken.knows.online;
        tells = taken.knows.tells;
      }) (ap (λ (x : Table). x.pointer.0) mid_catalog ∙ taken.catalog) both.rows

  -- ---- memory

  abbrev tables_now : ℕ → List ℕ → Option Table
  tables_now u name = if u == t then table_left (is_among takes.takes.keys) (stands.tables u) name else stands.tables u name

  abbrev now : Core D
  now = record old { waits = takes.begun.waits; store = takes.takes.taken.store; works = works_now }

  abbrev s_now : Standing
  s_now = standing_of now stands.numbers tables_now

  new_is : new ≡ record old { waits = takes.begun.waits; store = takes.takes.taken.store; works = works_now }
  new_is = takes.takes.same
      ∙ ap (λ (c : Core D). record c { works = works_left t takes.takes.end takes.takes.keys c.works })
      (rows.same ∙ ap (λ (c : Core D). record c { store = takes.takes.taken.store }) taken.same)

  its_tables : (name : List ℕ) → tables_now t name ≡ table_left (is_among takes.takes.keys) (stands.tables t) name
  its_tables name = rw (eq-eqb t t refl) refl

  other_tables : (u : ℕ) → u ≢ t → (name : List ℕ) → tables_now u name ≡ stands.tables u name
  other_tables u ne name = rw (ne_eqb u t ne) refl

  fewer : (u : ℕ) (name : List ℕ) (table : Table) → tables_now u name ≡ Some table → stands.tables u name ≡ Some table
  fewer u name table there = at (u == t) there
    where
      by : (b : Bool) → (if b then None else stands.tables u name) ≡ Some table → stands.tables u name ≡ Some table
      by true is_ = absurd cc
      by false is_ = is_

      at : (b : Bool) → (if b then table_left (is_among takes.takes.keys) (stands.tables u) name else stands.tables u name)
          ≡ Some table → stands.tables u name ≡ Some table
      at true is_ = by (is_among takes.takes.keys (table_key name)) is_
      at false is_ = is_

  memory_now : IsBackOverTables t point both.others.given takes.takes.keys s s_now
  memory_now = record {
    limit = refl;
    next = refl;
    state = λ u. refl;
    live = refl;
    over = takes.has_begun.ended.over;
    others = λ u ne. record {
      mode = ap mode_kept (others_work u ne);
      session = ap session_kept (others_work u ne);
      undo = ap undo_kept (others_work u ne);
      number = refl;
      table = other_tables u ne;
    };
    mode = all_work mode_kept refl t;
    session = all_work session_kept refl t;
    number = refl;
    table = its_tables;
    gave = subst (λ (u : Undo). GivesAll (going_to (s.undo t) point) both.others.given u)
        (sym (ap undo_kept its_work)) given_steps;
  }

  follows : FollowsEntry o h e s s_now
  follows = follow o h e point t both.others.given taken.rest takes.takes.keys s s_now is.back is.whose is.answered opening
      (is.lawful, shows.stands.legal) stands.grows shows.stands.memory continues.1 is.may rows_left same_else memory_now

  -- ---- the end of the way, at the size of the cache in the middle

  abbrev later : Pages
  later = shown takes.takes.taken.store.dirty rows.image

  step_at : (n : ℕ) → both.mid.store.geometry.size ≡ n
      → (its : Stands packed_form n o h s (Some (shown old.store.dirty shows.image))) → old.store.dirty.size ≡ n
      → (mid : StandsMidway m n o h e t whole taken.rest s old.store both.mid.store (shown old.store.dirty shows.image)
      its.shows taken.image (asked_in (with_work t unasked old.works)) (sessions_in old.works))
      → HasGoneOn m packed_form n o h e s_now old.store takes.takes.taken.store rows.image
      (asked_in (with_work t unasked old.works)) (sessions_in old.works)
      × TakesOnPages n o h e t taken.rest s mid.pages.layout mid.pages.reading (shown both.mid.store.dirty taken.image)
      (shown takes.takes.taken.store.dirty rows.image) (is_among takes.takes.keys)
  step_at n same = subst (λ (k : ℕ). (its : Stands packed_form k o h s (Some (shown old.store.dirty shows.image)))
      → old.store.dirty.size ≡ k
      → (mid : StandsMidway m k o h e t whole taken.rest s old.store both.mid.store (shown old.store.dirty shows.image)
      its.shows taken.image (asked_in (with_work t unasked old.works)) (sessions_in old.works))
      → HasGoneOn m packed_form k o h e s_now old.store takes.takes.taken.store rows.image
      (asked_in (with_work t unasked old.works)) (sessions_in old.works)
      × TakesOnPages k o h e t taken.rest s mid.pages.layout mid.pages.reading (shown both.mid.store.dirty taken.image)
      (shown takes.takes.taken.store.dirty rows.image) (is_among takes.takes.keys)) same
      (λ its size_is mid. (
        engines o h e point s s_now old.store both.mid.store takes.takes.taken.store shows.image taken.image rows.image
            (asked_in (with_work t unasked old.works)) (sessions_in old.works) t whole taken.rest takes.takes.keys its
            size_is stands.grows is.lawful goes all_taken rows_left follows refl (fewer t) mid.cache mid.pages rows.steps
            rows.knows.pool_is rows.knows.tells.held rows.size_is,
        pages_taken o h e point s old.store both.mid.store takes.takes.taken.store taken.image rows.image
            (asked_in (with_work t unasked old.works)) (sessions_in old.works) t whole taken.rest takes.takes.keys
            (shown old.store.dirty shows.image) its.shows opening (is.lawful, its.legal) stands.grows its.memory goes
            all_taken rows_left mid.cache mid.pages rows.steps,
      ))

  step : HasGoneOn m packed_form size o h e s_now old.store takes.takes.taken.store rows.image
      (asked_in (with_work t unasked old.works)) (sessions_in old.works)
      × TakesOnPages size o h e t taken.rest s taken.midway.pages.layout taken.midway.pages.reading
      (shown both.mid.store.dirty taken.image) (shown takes.takes.taken.store.dirty rows.image) (is_among takes.takes.keys)
  step = step_at size taken.knows.size_is shows.stands core.pool.page_size taken.midway

  size_now : takes.takes.taken.store.geometry.size ≡ size
  size_now = rows.size_is ∙ taken.knows.size_is

  -- ---- what it stands for

  given_now : AreSeen works_now tables_now
  given_now u name table given = at (cases_eq u t)
    where
      at : (u ≡ t) ⊎ (u ≢ t) → tables_now u name ≡ Some table
      at (inl e_) =
          let none : None ≡ Some table = sym (ap (λ (w : Option Working). given_by w name) its_work)
          ∙ (ap (λ (n : ℕ). given_to works_now n name) (sym e_) ∙ given) in absurd cc
      at (inr ne) = other_tables u ne name
          ∙ stands.given u name table (sym (ap (λ (w : Option Working). given_by w name) (others_work u ne)) ∙ given)

  lasts_now : LastsOn m packed_form o (e ∷ h) takes.takes.taken.store (asked_in works_now) (sessions_in works_now)
  lasts_now = subst (λ (x : Sessions). LastsOn m packed_form o (e ∷ h) takes.takes.taken.store (asked_in works_now) x)
      (sym sessions_same) (subst (λ (a : Asked). LastsOn m packed_form o (e ∷ h) takes.takes.taken.store a
      (sessions_in old.works)) (sym (fun_ext asked_same)) step.0.lasts)

  keeps_lists : KeepsLists size s pages (shown both.mid.store.dirty taken.image)
  keeps_lists = keep size o h e point s old.store old.store both.mid.store pages shows.stands.shows shows.image
      taken.image (asked_in (with_work t unasked old.works)) (sessions_in old.works) t whole whole taken.rest
      (of_others firsts) opening shows.stands.legal shows.stands.memory goes taken.steps midway

  tips_now : HasTips old.list size (shown takes.takes.taken.store.dirty rows.image)
  tips_now = lists old.list old.list size (shown both.mid.store.dirty taken.image)
      (shown takes.takes.taken.store.dirty rows.image) refl refl step.1.next step.1.stay
      (lists old.list old.list size pages (shown both.mid.store.dirty taken.image) refl refl keeps_lists.tips.next
      keeps_lists.tips.tips shows.tips)

  plain_now : HasPlainTables size (said old.list) (shown takes.takes.taken.store.dirty rows.image)
  plain_now = plain_tables_from size (said old.list) (said old.list) (shown both.mid.store.dirty taken.image)
      (shown takes.takes.taken.store.dirty rows.image) taken.knows.plain (λ chosen layout q sound its of.
      let stood = step.1.before chosen layout q sound its of in record {
        chosen = chosen;
        before = stood.layout;
        reading = stood.reading;
        sound = stood.sound;
        there = stood.of;
      })

  known_now : StaysKnown size (said old.list) pages (shown takes.takes.taken.store.dirty rows.image)
  known_now from dirs was = left_known one_way size (said old.list) t (shown both.mid.store.dirty taken.image)
      (shown takes.takes.taken.store.dirty rows.image) taken.midway.pages.layout step.1.tables.c
      taken.midway.pages.reading step.1.tables.rc (is_among takes.takes.keys) taken.midway.pages.sound
      step.1.tables.leaves step.1.tables.takes step.1.tables.sound from dirs (keeps_lists.known from dirs was)

  header_same : (header_of (shown takes.takes.taken.store.dirty rows.image)).catalog.0
      ≡ (header_of (shown both.mid.store.dirty taken.image)).catalog.0
  header_same = ap (λ (bytes : List ℕ). (header_in bytes).catalog.0) step.1.tables.leaves.header

  shows_now : ShowsIt m now o (e ∷ h) s_now
  shows_now = record {
    image = rows.image;
    held = rows.knows.tells.held;
    stands = subst (λ (n : ℕ). Stands packed_form n o (e ∷ h) s_now
        (Some (shown takes.takes.taken.store.dirty rows.image))) (sym size_now) step.0.stands;
    lasts = lasts_now;
    tips = subst (λ (n : ℕ). HasTips old.list n (shown takes.takes.taken.store.dirty rows.image)) (sym size_now) tips_now;
    catalog = taken.catalog ∙ sym header_same;
    plain_tables = subst (λ (n : ℕ). HasPlainTables n (said old.list) (shown takes.takes.taken.store.dirty rows.image))
        (sym size_now) plain_now;
    no_directory = shows.no_directory;
    known = subst (λ (n : ℕ). KnowsIts o.next.0 n (said old.list) (shown takes.takes.taken.store.dirty rows.image)
        old.directories) (sym size_now) (known_now o.next.0 (by_table old.directories.dirs) shows.known);
  }

  -- ---- what is kept

  undo_now : takes.takes.end ≡ undo_of (s.number t) (deeds_by t (steps o (e ∷ h)))
  undo_now = sym (ap undo_kept its_work) ∙ its.undo
    where
      its_entry : is_its t e ≡ true
      its_entry = ap (λ (x : Effect). is_of t (doer x)) is.back ∙ eq-eqb t t refl

      its : RemembersOne o (e ∷ h) s_now t
      its = follows.its t its_entry continues.1

  told_its : AreTold old.catalog.pointer.0 (Some work_now)
  told_its = subst (λ (u : Undo). AreOfKept page (tables_left takes.takes.keys takes.has_begun.its.0.written) u.changes)
      (sym undo_now) (subst (λ (w : Option Working). AreOfKept page (tables_left takes.takes.keys (written_kept w))
      (changes_of (s.number t) (deeds_by t (steps o (e ∷ h))))) work_is
      (told_left none_left size o h e t point s pages shows.stands.shows.layout shows.stands.shows.reading page old.works
      whole taken.rest takes.takes.keys is.back opening (is.lawful, shows.stands.legal) stands.grows
      (sym (shows.stands.memory.state t) ∙ continues.1) shows.stands.shows.sound
      (shows.stands.shows.tables t continues.1) stands.kept all_taken rows_left number_is
      (subst (λ (w : Option Working). AreOfKept page (written_kept w)
      (changes_of (s.number t) (deeds_by t (steps o (e ∷ h))))) (sym work_is)
      (subst (λ (u : Undo). AreOfKept page takes.has_begun.its.0.written u.changes) undo_now
      (all_kept page takes.has_begun.its.0.written (going_to takes.undo point) takes.takes.end both.others.given
      both.others.steps (going_kept page takes.has_begun.its.0.written takes.undo point
      (subst (λ (u : Undo). AreOfKept page takes.has_begun.its.0.written u.changes) takes.has_begun.its.2
      (subst (AreTold page) work_is (stands.kept.told t)))))))))

  kept_seen : (u : ℕ) (table : Table) → IsOneOf (written_kept (work_of works_now u)) table
      → SeesIt (tables_now u table.name) table
  kept_seen u table one = at (cases_eq u t)
    where
      its_seen : SeesIt (tables_now t table.name) table → u ≡ t → SeesIt (tables_now u table.name) table
      its_seen seen e_ = subst (λ (n : ℕ). SeesIt (tables_now n table.name) table) (sym e_) seen

      at : (u ≡ t) ⊎ (u ≢ t) → SeesIt (tables_now u table.name) table
      at (inl e_) =
          let there : IsOneOf takes.has_begun.its.0.written table
          × (is_one_of takes.takes.keys (table_key table.name) ≡ false)
          = left_one takes.takes.keys takes.has_begun.its.0.written table
          (subst (λ (w : Option Working). IsOneOf (written_kept w) table) (ap (work_of works_now) e_ ∙ its_work) one) in
          let stays : is_among takes.takes.keys (table_key table.name) ≡ false =
          sym (one_test takes.takes.keys (table_key table.name)) ∙ there.1 in
          its_seen (subst (λ (x : Option Table). SeesIt x table)
          (sym (its_tables table.name ∙ ap (λ (b : Bool). if b then None else stands.tables t table.name) stays))
          (stands.kept.seen t table (subst (λ (w : Option Working). IsOneOf (written_kept w) table) (sym work_is) there.0)))
          e_
      at (inr ne) = subst (λ (x : Option Table). SeesIt x table) (sym (other_tables u ne table.name))
          (stands.kept.seen u table (subst (λ (w : Option Working). IsOneOf (written_kept w) table) (others_work u ne) one))

  kept_now : KeepsWritten old.catalog.pointer.0 works_now tables_now
  kept_now = record { seen = kept_seen; told = λ u. at u (cases_eq u t) }
    where
      at : (u : ℕ) → (u ≡ t) ⊎ (u ≢ t) → AreTold old.catalog.pointer.0 (work_of works_now u)
      at u (inl e_) = subst (AreTold old.catalog.pointer.0) (sym (ap (work_of works_now) e_ ∙ its_work)) told_its
      at u (inr ne) = subst (AreTold old.catalog.pointer.0) (sym (others_work u ne)) (stands.kept.told u)

  stands_now : StandsFor m now o (e ∷ h)
  stands_now = record {
    tells = rows.knows.tells.told;
    grows = record { limbo = stands.grows.limbo; entries = (ap (makes_alone h) is.back, stands.grows.entries) };
    bases = bases_stay o h e (λ u snapshot. ap (λ (f : Effect). takes_base f u snapshot) is.back) stands.bases;
    numbers = stands.numbers;
    tables = tables_now;
    given = given_now;
    kept = kept_now;
    stands = subst (λ (off : Option ℕ). StandsWhile m now o (e ∷ h) s_now off) (sym rows.knows.online) shows_now;
  }

  pub stands_over : StandsFor m new o (e ∷ h)
      × LeavesSince m old.store.disk new.store.disk (HoldsAcknowledged packed_form old.store.dirty.size o h)
  stands_over = subst (λ (c : Core D). StandsFor m c o (e ∷ h)
      × LeavesSince m old.store.disk c.store.disk (HoldsAcknowledged packed_form old.store.dirty.size o h)) (sym new_is)
      (stands_now, step.0.leaves)

  -- ---- the walks of others

  module _ (keep_pages : KeysKeepPages D FireLinks m) (walks : BackWalksGoOn)
      (tables_walk : TablesWalksGoOn) (not_seen : SeenIsNotMade) where
    same_first : stands_of shows.stands.shows.layout ≡ stands_of midway.pages.layout
    same_first = ap stands_of (one_way size (left_state everyone s.state) pages shows.stands.shows.layout
        midway.pages.layout shows.stands.shows.reading midway.pages.reading shows.stands.shows.sound
        midway.pages.sound).0

    fronts : AreFrontStands (stands_of shows.stands.shows.layout) (stands_of taken.midway.pages.layout)
    fronts = subst (λ (ss : List Stand). AreFrontStands ss (stands_of taken.midway.pages.layout)) (sym same_first)
        (keep_pages size o h e point s old.store old.store both.mid.store pages shows.stands.shows shows.image
        taken.image (asked_in (with_work t unasked old.works)) (sessions_in old.works) t whole whole taken.rest
        (of_others firsts) opening shows.stands.legal shows.stands.memory goes taken.steps midway taken.midway)

    module _ (u : ℕ) (ne : u ≢ t) (active : said old.list u ≡ Active) (table : Table)
        (given : given_to old.works u table.name ≡ Some table) where
      active_u : state_of o h u ≡ Active
      active_u = sym (shows.stands.memory.state u) ∙ active

      -- nobody else sees a row that goes
      stays : is_among takes.takes.keys (table_key table.name) ≡ false
      stays = at (is_among takes.takes.keys (table_key table.name)) refl
        where
          sees : SeesRow (row_at (view o h u) catalog_name) table.name table
          sees = sees_row o h u table.name table
              (subst (IsSeenAs table.name (shape_seen o h u table.name)) (stands.given u table.name table given)
              ((shows.stands.memory.active u active_u).table table.name))

          at : (b : Bool) → is_among takes.takes.keys (table_key table.name) ≡ b
              → is_among takes.takes.keys (table_key table.name) ≡ false
          at false off = off
          at true on = absurd (false≢true (sym (not_seen o h t u (table_key table.name) sees.row opening
              shows.stands.legal stands.grows (ap is_open (sym (shows.stands.memory.state t) ∙ continues.1)) active_u
              (λ same. ne (sym same)) sees.there) ∙ rows_left.made (table_key table.name) on))

      walk_on : (after : Option WalkPlace) (rows_ : KeyedRows) → AreToCome size s pages u table after rows_
          → AreToCome size (standing_of now stands.numbers stands.tables)
          (shown takes.takes.taken.store.dirty rows.image) u table after rows_
      walk_on after rows_ next = tables_walk size o h e t u taken.rest s
          (standing_of now stands.numbers stands.tables) taken.midway.pages.layout taken.midway.pages.reading
          (shown both.mid.store.dirty taken.image)
          (shown takes.takes.taken.store.dirty rows.image) (is_among takes.takes.keys) taken.midway.pages.sound
          step.1.tables (record { back = continues.1; active = active; apart = ne; takes = λ by. refl }) (λ v. refl) table
          (λ other. stays) after rows_
          (walks size o h e t u whole taken.rest s s pages (shown both.mid.store.dirty taken.image) shows.stands.shows
          taken.midway.pages (record { back = continues.1; active = active; apart = ne; takes = λ by. refl }) fronts
          (λ v. refl) table after rows_ next)

      pub walks_over : (i : Image) → m.held old.store.disk ≡ Some i → (after : Option WalkPlace) (rows_ : KeyedRows)
          → AreToCome size s (shown old.store.dirty i) u table after rows_
          → (k : Image) × (m.held new.store.disk ≡ Some k)
          × AreToCome new.store.geometry.size (standing_of new stands.numbers stands.tables) (shown new.store.dirty k) u
          table after rows_
      walks_over i held after rows_ next =
          let both_ : Some shows.image ≡ Some i = sym shows.held ∙ held in
          let same : i ≡ shows.image = cc in
          subst (λ (c : Core D). (k : Image) × (m.held c.store.disk ≡ Some k)
          × AreToCome c.store.geometry.size (standing_of c stands.numbers stands.tables) (shown c.store.dirty k) u table
          after rows_) (sym new_is) (
            rows.image,
            rows.knows.tells.held,
            subst (λ (n : ℕ). AreToCome n (standing_of now stands.numbers stands.tables)
                (shown takes.takes.taken.store.dirty rows.image) u table after rows_) (sym size_now) (walk_on after rows_
                (subst (λ (k : Image). AreToCome size s (shown old.store.dirty k) u table after rows_) same next)),
          )

-- ---- the laws

pub engines_go_over : {D : Type 0} (m : Meaning D) → OpeningsBegin → UnaskingLasts packed_form D FireLinks m
    → ListsStay → SinceAreTaken → MidwaysBegin packed_form D FireLinks m → ShowsFirst packed_form → GivesWhatWas
    → KeysAreTaken → GivenApart → RowsAreLeft → RowsAreMadeOnce → RowsAreTogether → CoresTakeAll D m → KeysKeepLists D FireLinks m
    → CoresTakeRows D m → TablesFollow → EnginesTakeTables D FireLinks m → TablesAreTaken D FireLinks m
    → NoneOfGone → StandsOneWay packed_form → EnginesGoOver D m
engines_go_over m openings unask lists since begin first_shows what_was keys_law apart rows_law once together takes_all keep rows_taken follow engines pages_taken none_left
    one_way old new t point o h e core takes stands is = stands_over m openings unask lists since begin first_shows what_was keys_law apart rows_law once together takes_all keep rows_taken follow engines pages_taken none_left one_way old
    new t point o h e core takes stands is (shows_of m old o h stands takes.has_begun.continues.0)

pub others_walk_over : {D : Type 0} (m : Meaning D) → OpeningsBegin → UnaskingLasts packed_form D FireLinks m
    → ListsStay → SinceAreTaken → MidwaysBegin packed_form D FireLinks m → ShowsFirst packed_form → GivesWhatWas
    → KeysAreTaken → GivenApart → RowsAreLeft → RowsAreMadeOnce → RowsAreTogether → CoresTakeAll D m → KeysKeepLists D FireLinks m
    → CoresTakeRows D m → TablesFollow → EnginesTakeTables D FireLinks m → TablesAreTaken D FireLinks m
    → NoneOfGone → StandsOneWay packed_form
    → KeysKeepPages D FireLinks m → BackWalksGoOn → TablesWalksGoOn → SeenIsNotMade → OthersWalkOver D m
others_walk_over m openings unask lists since begin first_shows what_was keys_law apart rows_law once together takes_all keep rows_taken follow engines pages_taken none_left
    one_way keep_pages walks tables_walk not_seen old new t point o h e core takes stands is i held u ne active table given
    after rows next = walks_over m openings unask lists since begin first_shows what_was keys_law apart rows_law once together takes_all keep rows_taken follow engines pages_taken none_left one_way old new t point o h e core takes stands is
    (shows_of m old o h stands takes.has_begun.continues.0) keep_pages walks tables_walk not_seen u ne active table
    given i held after rows next
