-- A change was not taken back, and so the transaction is rolled back: its engine stands for the history with the refused
-- event and the rollback.
use Rattle.std.proofs.Common.{◌≡◌, ◌≢◌, ◌⊎◌, ◌∙◌, ◌∷◌, ◌==◌, ◌&&◌, ◌≤◌, [], ℕ, Bool, Err, List, None, Option, Some, ap, false, inl, inr, not, refl, subst, sym, true}
use Rattle.std.proofs.Math.Path.{fun_ext}
use Rattle.std.proofs.lemmas.Bool.{cases_eq, eq-eqb, ne_eqb}
use Rattle.std.specs.Prelude.{if◌then◌else◌}
use Rattle.mg_base.specs.Disk.{Meaning}
use Rattle.mg_base.specs.Image.{Image}
use Rattle.mg_base.specs.declared.numbers.TxNo.{TxNo}
use Rattle.mg_base.specs.declared.transaction.TxState.{TxState}
use Rattle.mg_base.specs.declared.transaction.TxState.TheVariants.{Active, Dead}
use Rattle.mg_chain.specs.Chains.{takes_version}
use Rattle.mg_directory.specs.Candidates.{by_table}
use Rattle.mg_engine_meaning_laws.specs.KnownRecords.{KnowsIts}
use Rattle.mg_engine_meaning_laws.specs.RollbackEnds.{known_by_dead}
use Rattle.mg_engine_step_laws.specs.tables_back.Outs.{GoOrStay}
use Rattle.mg_engine_change_laws.specs.memory.RecordChanges.{lost_lone, lost_noted}
use Rattle.mg_engine_change_laws.specs.given_up.EngineGivenUp.{states_now}
use Rattle.mg_engine_change_laws.specs.tables_back.RowsLostLaws.{walks_past}
use Rattle.mg_engine_step_laws.specs.writes.GoesOnLaws.{pool_is_kept}
use Rattle.mg_image.specs.Tables.{Layout}
use Rattle.mg_image_overlay_laws.specs.kept.KeptImages.{IsKept}
use Rattle.mg_space.specs.declared.links.FireLinks.{FireLinks}
use Rattle.mg_core.specs.Cores.{IsCore}
use Rattle.mg_core.specs.declared.parts.Core.{Core}
use Rattle.mg_engine_change_laws.specs.backs.Events.{active_here, passing_back, whose_back}
use Rattle.mg_engine_change_laws.specs.backs.Known.{KnownOfBacks}
use Rattle.mg_engine_change_laws.specs.backs.Outcomes.{IsGivenUp, back_event}
use Rattle.mg_engine_change_laws.specs.backs.BackBegun.{begins, goes, midway, opening}
use Rattle.mg_engine_change_laws.specs.backs.Backs.{BeginsBack, EndsOver}
use Rattle.mg_engine_change_laws.specs.given_up.StopsAfter.{StopsAfter, TakesSome}
use Rattle.mg_engine_change_laws.specs.given_up.StopsAfterLaws.{counts, ends_over, keeps_lists, may_answer, stopped_is, stops_reading}
use Rattle.mg_engine_meaning_laws.specs.StepLaws.{shows_of}
use Rattle.mg_engine_meaning_laws.specs.Freeing.{sessions_end}
use Rattle.mg_engine_meaning_laws.specs.Leaving.{follows_end, given_same, seen_still, still_active}
use Rattle.mg_engine_meaning_laws.specs.Falling.{Falls, all_but}
use Rattle.mg_engine_meaning_laws.specs.FrameLaws.{apart_from, commits_of, keeps_of, quiet_of, tables_of}
use Rattle.mg_engine_meaning_laws.specs.KeptLaws.{kept_without_work}
use Rattle.mg_engine_meaning_laws.specs.LawfulLaws.{memory_of, quiet_count, quiet_event}
use Rattle.mg_engine_meaning_laws.specs.Meaning.{AreNext, Places, means, place_at}
use Rattle.mg_engine_meaning_laws.specs.MemoryCallLaws.{active_answer, nothing_follows}
use Rattle.mg_engine_meaning_laws.specs.PlainLaws.{HasStood, plain_tables_from}
use Rattle.mg_engine_meaning_laws.specs.PlainTables.{HasPlainTables}
use Rattle.mg_engine_meaning_laws.specs.Standings.{HasTips, ShowsIt, StandsFor, StandsWhile, asked_in, asked_kept, session_kept, sessions_in, standing_of}
use Rattle.mg_engine_change_laws.specs.rows.MadeLaws.{StoreOn, on_then, read_on}
use Rattle.mg_engine_change_laws.specs.memory.Notes.{AreCounts}
use Rattle.mg_engine_change_laws.specs.rows.StopLaws.{fault_outer, fault_waits, risen}
use Rattle.mg_engine_step_laws.specs.standing.Following.{FollowsEntry}
use Rattle.mg_engine_step_laws.specs.standing.Known.{IsShown, seen_is_shown}
use Rattle.mg_engine_step_laws.specs.commits.PageWrites.{KeepAsking}
use Rattle.mg_engine_step_laws.specs.standing.Standing.{Standing, Stands}
use Rattle.mg_engine_step_laws.specs.reads.Walking.{AreToCome, WalkPlace}
use Rattle.mg_engine_change_laws.specs.keys.BackLists.{KeepsLists}
use Rattle.mg_engine_change_laws.specs.rows.Tips.{KeepsTips}
use Rattle.mg_engine_step_laws.specs.writes.Claims.{left_same}
use Rattle.mg_engine_step_laws.specs.tables_back.TablesBack.{StoodUnder}
use Rattle.mg_engine_change_laws.specs.keys.BackWalks.{WalksBeside}
use Rattle.mg_engine_change_laws.specs.given_up.GivenUp.{GivesUp}
use Rattle.mg_engine_change_laws.specs.keys.TakingSteps.{StandsMidway}
use Rattle.mg_engine_change_laws.specs.backs.ToTake.{since_point}
use Rattle.mg_engine_step_laws.specs.backs.Midway.{GoesBack}
use Rattle.mg_engine_step_laws.specs.backs.Again.{again, rolling}
use Rattle.mg_image.specs.Form.{Pages, packed_form}
use Rattle.mg_image.specs.Sound.{IsSoundBy}
use Rattle.mg_image.specs.Tables.{Stand, stands_of}
use Rattle.mg_image_overlay_laws.specs.kept.KeptImages.{AreFrontStands}
use Rattle.mg_lasting_laws.specs.Crashes.{HoldsAcknowledged, LeavesSince, may_last}
use Rattle.mg_lasting_laws.specs.Entries.{idle_state}
use Rattle.mg_lasting_laws.specs.Lasting.{LastsOn}
use Rattle.mg_model.specs.Answers.{is_active}
use Rattle.mg_model.specs.Changes.{KeyedRows}
use Rattle.mg_model.specs.History.{Ends, Entries, Entry, entry}
use Rattle.mg_model.specs.Legal.{IsLawful, MayBegin, is_durable, is_outer}
use Rattle.mg_model.specs.Machine.{deeds_by, is_of, state_after, state_of, steps, waited_on}
use Rattle.mg_model.specs.Openings.{everyone}
use Rattle.mg_model.specs.declared.answer.Answer.TheVariants.{Fine, No}
use Rattle.mg_model.specs.declared.change.Change.{Change}
use Rattle.mg_model.specs.declared.change.Point.{Point}
use Rattle.mg_model.specs.declared.opening.Opening.{Opening}
use Rattle.mg_model.specs.declared.refusal.Refusal.{Refusal}
use Rattle.mg_model.specs.declared.table.Table.{Table}
use Rattle.mg_overlay_laws.specs.Overlays.{left_by, left_state, without}
use Rattle.mg_pool.specs.Dirty.{DirtyPages}
use Rattle.mg_pool.specs.Pool.{shown}
use Rattle.mg_records.specs.Keeping.{WalksStay}
use Rattle.mg_records.specs.Sessions.{SessionsStay, given_up_in}
use Rattle.mg_records.specs.TakingBack.{after_refusal, is_given_up}
use Rattle.mg_snap.specs.Live.{after_leave}
use Rattle.mg_space.specs.View.{KeepsStore}
use Rattle.mg_space.specs.ViewLaws.{tells_on}
use Rattle.mg_taking_back.specs.Taking.{HasBegun, IsRolledBack}
use Rattle.mg_txlist.specs.TxList.{EndsIn, said}
use Rattle.mg_txlist.specs.declared.list.TxList.{TxList}
use Rattle.mg_undo.specs.Undo.{State as Undo}
use Rattle.mg_waits.specs.Waits.{NowWaits, edges_in}
use Rattle.mg_works.specs.Works.{AreApart, Working, unasked, with_work, without_work}
use Rattle.mg_works.specs.WorksLaws.{with_others, without_others}
use Rattle.mg_image_overlay_laws.specs.tables.Growing.{IsTableOf}
use Rattle.mg_image.specs.Records.{Reading}

-- ---- works

-- without its work it does not matter what that is
pub without_with : (t : ℕ) (made : Working → Working) → ((w : Working) → (made w).number ≡ w.number)
    → (works : List Working) → without_work t (with_work t made works) ≡ without_work t works
without_with t made number [] = refl
without_with t made number (w ∷ works) = at (w.number == t) refl (without_with t made number works)
  where
    at : (b : Bool) → (w.number == t) ≡ b → without_work t (with_work t made works) ≡ without_work t works
        → without_work t ((if b then made w else w) ∷ with_work t made works)
        ≡ (if not b then w ∷ without_work t works else without_work t works)
    at true is more = rw (ap (λ (n : ℕ). n == t) (number w) ∙ is) more
    at false is more = rw is (ap (λ (ws : List Working). w ∷ ws) more)

and_true : (b : Bool) → b ≡ (b && true)
and_true true = refl
and_true false = refl

-- ---- the engine

module _ {D P : Type 0} (m : Meaning D) (places : Places P) (known : KnownOfBacks D P m)
    (old begun stopped new : Core D) (t : TxNo) (point : Point) (undo : Undo) (refusal : Refusal) (core : IsCore m old)
    (counted : AreCounts old) (apart : AreApart old.works) (has_begun : HasBegun old begun t.0 undo)
    (stops : StopsAfter m old begun stopped t point refusal)
    (rolled : IsRolledBack stopped new t.0) (given_up : is_given_up refusal ≡ true)
    (keeps : KeepsStore m stops.at.store stopped.store) where
  ends_now : EndsIn old.list new.list t.0 Dead
  ends_now = subst (λ (l : TxList). EndsIn l new.list t.0 Dead)
      (ap (λ (c : Core D). c.list) (stopped_is m old begun stopped t point refusal stops)) rolled.ends

  pages_now : new.list.pages ≡ old.list.pages
  pages_now = rolled.pages ∙ ap (λ (c : Core D). c.list.pages) (stopped_is m old begun stopped t point refusal stops)

  abbrev now : Core D
  now = record old {
    waits = begun.waits;
    store = stopped.store;
    list = new.list;
    works = without_work t.0 old.works;
    live = after_leave old.live t.0;
    damage = stopped.damage;
    shortages = stopped.shortages;
  }

  new_is : new ≡ record old {
    waits = begun.waits;
    store = stopped.store;
    list = new.list;
    works = without_work t.0 old.works;
    live = after_leave old.live t.0;
    damage = stopped.damage;
    shortages = stopped.shortages;
  }
  new_is = rolled.same ∙ (ap (λ (c : Core D). record c {
    list = new.list;
    works = without_work t.0 c.works;
    live = after_leave c.live t.0;
  }) (stopped_is m old begun stopped t point refusal stops)
      ∙ ap (λ (ws : List Working). record old {
        waits = begun.waits;
        store = stopped.store;
        list = new.list;
        works = ws;
        live = after_leave old.live t.0;
        damage = stopped.damage;
        shortages = stopped.shortages;
      }) (without_with t.0 unasked (λ w. refl) old.works))

  not_active : Dead ≢ Active
  not_active same = absurd cc

  -- ---- the entries

  abbrev refused : Entry
  refused = entry (back_event t point) (No refusal)

  outer : is_outer (No refusal) ≡ true
  outer = fault_outer stops.stopping.fault refusal stops.stopping.is

  no_wait : waited_on (No refusal) ≡ None
  no_wait = fault_waits stops.stopping.fault refusal stops.stopping.is

  passing : is_durable (entry (back_event t point) (No refusal)) ≡ false
  passing = quiet_count (entry (back_event t point) (No refusal)) (passing_back t point)

  no_failure : may_last (entry (back_event t point) (No refusal)) ≡ false
  no_failure = quiet_event (entry (back_event t point) (No refusal)) (passing_back t point)

  -- ---- the store

  store_on : StoreOn m old.store stopped.store
  store_on = on_then m old.store stops.at.store stopped.store stops.taken.on
      (read_on m stops.at.store stopped.store keeps (keeps.offline ∙ stops.taken.on.online))

  -- ---- over a history

  module _ (o : Opening) (h : Entries) (stands : StandsFor m old o h) where
    abbrev e : Entry
    e = entry (back_event t point) Fine

    abbrev size : ℕ
    size = old.store.geometry.size

    abbrev s : Standing
    s = standing_of old stands.numbers stands.tables

    abbrev s_mid : Standing
    s_mid = standing_of (record old { waits = begun.waits; works = old.works; live = old.live }) stands.numbers
        stands.tables

    abbrev s_now : Standing
    s_now = standing_of now stands.numbers stands.tables

    abbrev whole : List Change
    whole = since_point point (deeds_by t.0 (steps o h))

    abbrev shows : ShowsIt m old o h (standing_of old stands.numbers stands.tables)
    shows = shows_of m old o h stands has_begun.continues.0

    -- what was taken back till then
    abbrev some : TakesSome m old begun stops.at t point o h stands shows
    some = stops.over o h stands shows

    abbrev begins_so : BeginsBack m o h (entry (back_event t point) Fine) point t.0
        (standing_of old stands.numbers stands.tables) old.store shows.image
        (asked_in (with_work t.0 unasked old.works)) (sessions_in old.works)
    begins_so = begins m known old begun t point undo core has_begun o h stands shows

    abbrev image : Image
    image = some.image

    may_begin : MayBegin o
    may_begin = opening m known old begun t point undo core has_begun o h stands shows

    goes_back : GoesBack o h e point s (asked_in (with_work t.0 unasked old.works)) t.0
    goes_back = goes m known old begun t point undo core has_begun o h stands shows

    at_first : StandsMidway m size o h e t.0 whole whole s old.store old.store (shown old.store.dirty shows.image)
        shows.stands.shows shows.image (asked_in (with_work t.0 unasked old.works)) (sessions_in old.works)
    at_first = midway m known old begun t point undo core has_begun o h stands shows

    its_end : EndsOver m old.store stopped.store image
    its_end = ends_over m known old begun stopped t point undo refusal core has_begun stops o h stands stopped.store
        keeps

    active : state_of o h t.0 ≡ Active
    active = active_here m old t point undo has_begun.continues has_begun.its o h stands

    lawful : IsLawful o h (entry (back_event t point) (No refusal))
    lawful = inr outer

    ends_lawful : IsLawful o (entry (back_event t point) (No refusal) ∷ h) (rolling t.0)
    ends_lawful = inl (sym (active_answer (state_of o (entry (back_event t point) (No refusal) ∷ h) t.0) Fine
        (idle_state o h (entry (back_event t point) (No refusal)) refl t.0 ∙ active)))

    first : FollowsEntry o h (entry (back_event t point) (No refusal)) s s_mid
    first = nothing_follows old begun.waits o h (entry (back_event t point) (No refusal)) t.0 refl (whose_back t point)
        (subst (λ (who : Option ℕ). NowWaits (edges_in old.waits) (edges_in begun.waits) t.0 who) (sym no_wait)
        has_begun.ended.over) stands.numbers stands.tables

    then_ : FollowsEntry o (entry (back_event t point) (No refusal) ∷ h) (rolling t.0) s_mid s_now
    then_ = follows_end m places (record old { waits = begun.waits; works = old.works; live = old.live }) begun.waits
        new.list stopped.store t.0 Dead ends_now not_active o (entry (back_event t point) (No refusal) ∷ h)
        (rolling t.0) refl (λ keeps. refl) refl refl (record {
          its = has_begun.ended.over.its;
          others = λ u ne. refl;
        }) stands.numbers stands.tables

    gives : GivesUp o h (entry (back_event t point) (No refusal)) (rolling t.0) t.0 s s_mid s_now
    gives = record { nothing = refl; dies = refl; active = has_begun.continues.1; first = first; then_ = then_ }

    asks : KeepAsking o (rolling t.0 ∷ entry (back_event t point) (No refusal) ∷ h)
        (asked_in (with_work t.0 unasked old.works)) (asked_in (without_work t.0 old.works)) (sessions_in old.works)
        (sessions_in (without_work t.0 old.works))
    asks u active_then = at (cases_eq u t.0)
      where
        at : (u ≡ t.0) ⊎ (u ≢ t.0) → (asked_in (without_work t.0 old.works) u
            ≡ asked_in (with_work t.0 unasked old.works) u)
            × (sessions_in (without_work t.0 old.works) u ≡ sessions_in old.works u)
        at (inl same) =
            let gone : state_after (Ends t.0 Dead) u (state_of o h u) ≡ Dead = rw (eq-eqb t.0 u (sym same)) refl in
            absurd (not_active (sym gone ∙ active_then))
        at (inr ne) = (
          ap asked_kept (without_others old.works t.0 u ne
              ∙ sym (with_others t.0 unasked (λ w. refl) (λ w. refl) old.works u ne)),
          ap session_kept (without_others old.works t.0 u ne),
        )

    -- the pages of transactions, and plain tables, after the keys
    lists_mid : KeepsLists size s (shown old.store.dirty shows.image) (shown some.mid.store.dirty some.taken.image)
    lists_mid = keeps_lists m known old begun stopped t point undo refusal core has_begun stops o h stands

    pub all : Stands packed_form size o (rolling t.0 ∷ entry (back_event t point) (No refusal) ∷ h) s_now
        (Some (shown stopped.store.dirty image))
        × LastsOn m packed_form o (rolling t.0 ∷ entry (back_event t point) (No refusal) ∷ h) stopped.store
        (asked_in (without_work t.0 old.works)) (sessions_in (without_work t.0 old.works))
        × LeavesSince m old.store.disk stopped.store.disk (HoldsAcknowledged packed_form size o h)
    all = known.given_up o h e (entry (back_event t point) (No refusal)) point t.0 s s_mid s_now old.store stopped.store
        shows.image image (asked_in (with_work t.0 unasked old.works)) (asked_in (without_work t.0 old.works))
        (sessions_in old.works) (sessions_in (without_work t.0 old.works)) begins_so stands.grows lawful ends_lawful
        passing no_failure gives asks (stops_reading m known old begun stopped t point undo refusal core has_begun stops o h stands stopped.store keeps) its_end
        (lists_mid.plain shows.plain_tables)

    -- ---- what it stands for

    same_shown : shown stopped.store.dirty image ≡ shown stops.at.store.dirty image
    same_shown = ap (λ (d : DirtyPages). shown d image) keeps.dirty

    -- the pages of transactions after the rows
    kept_tips : KeepsTips size (shown some.mid.store.dirty some.taken.image) (shown stopped.store.dirty image)
    kept_tips = subst (λ (x : Pages). KeepsTips size (shown some.mid.store.dirty some.taken.image) x) (sym same_shown)
        some.lost.tips

    dead_alike : (chosen : ℕ → Bool) → left_state (without t.0 chosen) (said old.list)
        ≡ left_state chosen (said new.list)
    dead_alike chosen = fun_ext (left_same t.0 (said old.list) (said new.list) ends_now.here ends_now.others
        has_begun.continues.1 chosen)

    -- with the transaction dead each table that stands then stood after the keys
    plain_now : HasPlainTables size (said new.list) (shown stopped.store.dirty image)
    plain_now = plain_tables_from size (said old.list) (said new.list) (shown some.mid.store.dirty some.taken.image)
        (shown stopped.store.dirty image) (lists_mid.plain shows.plain_tables) stood
      where
        off : (chosen : ℕ → Bool) → without t.0 chosen t.0 ≡ false
        off chosen = rw (eq-eqb t.0 t.0 refl) refl

        stood : (chosen : ℕ → Bool) (layout : Layout) (q : Reading)
            → IsSoundBy packed_form size (left_state chosen (said new.list)) (shown stopped.store.dirty image) layout q
            → (its : Table) → IsTableOf layout its
            → HasStood size (said old.list) (shown some.mid.store.dirty some.taken.image) its
        stood chosen layout q sound its of = record {
          chosen = without t.0 chosen;
          before = it.layout;
          reading = it.reading;
          sound = it.sound;
          there = it.of;
        }
          where
            it : StoodUnder size (left_state (without t.0 chosen) (said old.list))
                (shown some.mid.store.dirty some.taken.image) its
            it = some.lost.stood (without t.0 chosen) (off chosen) layout q
                (subst (λ (x : ℕ → TxState). IsSoundBy packed_form size x (shown stops.at.store.dirty image) layout q)
                (sym (dead_alike chosen))
                (subst (λ (x : Pages). IsSoundBy packed_form size (left_state chosen (said new.list)) x layout q)
                same_shown sound)) its of

    -- what is known of the records after the keys, also with the transaction dead
    known_mid : KnowsIts o.next.0 size (said new.list) (shown some.mid.store.dirty some.taken.image) old.directories
    known_mid = known_by_dead known.rows_one known.one_way o.next.0 size (said old.list) (said new.list)
        (shown some.mid.store.dirty some.taken.image) t.0 has_begun.continues.1 ends_now.here ends_now.others
        (lists_mid.plain shows.plain_tables) some.taken.midway.pages.layout some.taken.midway.pages.reading
        some.taken.midway.pages.sound old.directories
        (lists_mid.known o.next.0 (by_table old.directories.dirs) shows.known)

    dead_beside : left_state (all_but t.0) (said old.list) ≡ left_state everyone (said new.list)
    dead_beside = ap (λ (c : ℕ → Bool). left_state c (said old.list)) (fun_ext (λ u. and_true (not (u == t.0))))
        ∙ fun_ext (left_same t.0 (said old.list) (said new.list) ends_now.here ends_now.others
        has_begun.continues.1 everyone)

    mid_kept : IsKept packed_form size o (again t.0 some.taken.rest (e ∷ h)) (left_state (all_but t.0) (said old.list))
        (shown some.mid.store.dirty some.taken.image) (shown some.mid.store.dirty some.taken.image)
    mid_kept = pool_is_kept packed_form D FireLinks size o (again t.0 some.taken.rest (e ∷ h)) (said old.list)
        (asked_in (with_work t.0 unasked old.works)) (sessions_in old.works) some.mid.store some.taken.image
        (all_but t.0) some.taken.midway.cache.kept

    -- and so after the rows
    lost_by : (b : Layout) (q : Reading)
        → IsSoundBy packed_form size (left_state everyone (said new.list)) (shown stopped.store.dirty image) b q
        → (mid_kept.layout ≡ b) × GoOrStay t.0 mid_kept.reading q
    lost_by b q sound = some.lost.loses mid_kept.layout b mid_kept.reading q mid_kept.sound
        (subst (λ (x : ℕ → TxState). IsSoundBy packed_form size x (shown stops.at.store.dirty image) b q) (sym dead_beside)
        (subst (λ (x : Pages). IsSoundBy packed_form size (left_state everyone (said new.list)) x b q) same_shown
        sound))

    mid_sound : IsSoundBy packed_form size (left_state everyone (said new.list))
        (shown some.mid.store.dirty some.taken.image) mid_kept.layout mid_kept.reading
    mid_sound = subst (λ (x : ℕ → TxState). IsSoundBy packed_form size x (shown some.mid.store.dirty some.taken.image)
        mid_kept.layout mid_kept.reading) dead_beside mid_kept.sound

    known_now : KnowsIts o.next.0 size (said new.list) (shown stopped.store.dirty image) old.directories
    known_now = record {
      noted = λ b q sound. lost_noted (left_state everyone (said new.list)) (left_state everyone (said new.list))
          (shown some.mid.store.dirty some.taken.image) (shown stopped.store.dirty image) mid_kept.layout b
          mid_kept.reading q t.0 (by_table old.directories.dirs) (lost_by b q sound).0 (lost_by b q sound).1
          (known_mid.noted mid_kept.layout mid_kept.reading mid_sound);
      lone = λ b q sound. lost_lone o.next.0 mid_kept.layout b mid_kept.reading q t.0 (lost_by b q sound).0
          (lost_by b q sound).1 (known_mid.lone mid_kept.layout mid_kept.reading mid_sound);
    }

    tips_mid : HasTips old.list size (shown some.mid.store.dirty some.taken.image)
    tips_mid = known.lists old.list old.list size (shown old.store.dirty shows.image)
        (shown some.mid.store.dirty some.taken.image) refl refl lists_mid.tips.next lists_mid.tips.tips shows.tips

    shows_now : ShowsIt m now o (rolling t.0 ∷ entry (back_event t point) (No refusal) ∷ h) s_now
    shows_now = record {
      image = image;
      held = its_end.held;
      stands = subst (λ (n : ℕ). Stands packed_form n o (rolling t.0 ∷ entry (back_event t point) (No refusal) ∷ h) s_now
          (Some (shown stopped.store.dirty image))) (sym its_end.size) all.0;
      lasts = all.1;
      tips = subst (λ (n : ℕ). HasTips new.list n (shown stopped.store.dirty image))
          (sym its_end.size)
          (known.lists old.list new.list size (shown some.mid.store.dirty some.taken.image)
          (shown stopped.store.dirty image) ends_now.size pages_now kept_tips.next kept_tips.tips tips_mid);
      catalog = some.taken.catalog ∙ sym kept_tips.catalog;
      plain_tables = subst (λ (n : ℕ). HasPlainTables n (said new.list) (shown stopped.store.dirty image))
          (sym its_end.size) plain_now;
      no_directory = shows.no_directory;
      known = subst (λ (n : ℕ). KnowsIts o.next.0 n (said new.list) (shown stopped.store.dirty image) old.directories)
          (sym its_end.size) known_now;
    }

    abbrev stands_now : StandsFor m now o (rolling t.0 ∷ entry (back_event t point) (No refusal) ∷ h)
    stands_now = record {
      tells = (tells_on m stops.at.store stopped.store image keeps some.lost.knows.tells).told;
      grows = record { limbo = stands.grows.limbo; entries = (refl, (refl, stands.grows.entries)) };
      bases = stands.bases;
      numbers = stands.numbers;
      tables = stands.tables;
      given = seen_still m places old begun.waits new.list stopped.store t.0 stands.tables stands.given;
      kept = kept_without_work t.0 old.catalog.pointer.0 old.works stands.tables stands.kept;
      stands = subst (λ (off : Option ℕ). StandsWhile m now o
          (rolling t.0 ∷ entry (back_event t point) (No refusal) ∷ h) s_now off) (sym store_on.online) shows_now;
    }

    -- ---- walks

    module _ (u : ℕ) (not_ : is_of u (Some t.0) ≡ false) (also : state_of o h u ≡ Active) (table : Table)
        (seen : stands.tables u table.name ≡ Some table) where
      ne : u ≢ t.0
      ne = apart_from u t.0 not_

      said_so : said old.list u ≡ Active
      said_so = (memory_of m old o h stands).state u ∙ also

      beside : WalksBeside s s_now t.0 u
      beside = record {
        back = has_begun.continues.1;
        active = said_so;
        apart = ne;
        takes = known.take o (entry (back_event t point) (No refusal) ∷ h) (rolling t.0) s_mid s_now u may_begin
            (ends_lawful, (lawful, shows.stands.legal))
            (known.on size o h (entry (back_event t point) (No refusal)) s s_mid
            (Some (shown old.store.dirty shows.image)) None shows.stands lawful first tt).memory then_ not_;
      }

      falls : Falls (left_state everyone (said old.list)) (left_state everyone (said new.list)) t.0
      falls = record {
        limbo = ap (left_by true) has_begun.continues.1;
        dead = ap (left_by true) ends_now.here;
        others = λ v off. ap (left_by true) (ends_now.others v off);
      }

      fronts : AreFrontStands (stands_of shows.stands.shows.layout) (stands_of some.taken.midway.pages.layout)
      fronts = subst (λ (ss : List Stand). AreFrontStands ss (stands_of some.taken.midway.pages.layout))
          (sym (ap stands_of (known.one_way size (left_state everyone s.state)
          (shown old.store.dirty shows.image) shows.stands.shows.layout at_first.pages.layout
          shows.stands.shows.reading at_first.pages.reading shows.stands.shows.sound
          at_first.pages.sound).0))
          (known.keep_pages size o h e point s old.store old.store some.mid.store
          (shown old.store.dirty shows.image) shows.stands.shows shows.image some.taken.image
          (asked_in (with_work t.0 unasked old.works)) (sessions_in old.works) t.0 whole whole some.taken.rest
          some.keys may_begin shows.stands.legal shows.stands.memory goes_back some.taken.steps
          at_first some.taken.midway)

      -- with the transaction dead, after the keys
      states : left_state (all_but t.0) (said old.list) ≡ left_state everyone (said new.list)
      states = states_now o h (entry (back_event t point) (No refusal)) (rolling t.0) t.0 s s_mid s_now gives

      dead_mid : IsKept packed_form size o (again t.0 some.taken.rest (e ∷ h)) (left_state (all_but t.0) (said old.list))
          (shown some.mid.store.dirty some.taken.image) (shown some.mid.store.dirty some.taken.image)
      dead_mid = pool_is_kept packed_form D FireLinks size o (again t.0 some.taken.rest (e ∷ h)) (said old.list)
          (asked_in (with_work t.0 unasked old.works)) (sessions_in old.works) some.mid.store some.taken.image
          (all_but t.0) some.taken.midway.cache.kept

      sound_now : IsSoundBy packed_form size (left_state (all_but t.0) (said old.list)) (shown stops.at.store.dirty image)
          all.0.shows.layout all.0.shows.reading
      sound_now = subst (λ (x : ℕ → TxState). IsSoundBy packed_form size x (shown stops.at.store.dirty image)
          all.0.shows.layout all.0.shows.reading) (sym states)
          (subst (λ (x : Pages). IsSoundBy packed_form size (left_state everyone (said new.list)) x all.0.shows.layout
          all.0.shows.reading) same_shown all.0.shows.sound)

      same_layout : dead_mid.layout ≡ all.0.shows.layout
      same_layout = (some.lost.loses dead_mid.layout all.0.shows.layout dead_mid.reading all.0.shows.reading dead_mid.sound
          sound_now).0

      is_shown : IsShown dead_mid.layout table
      is_shown = subst (λ (l : Layout). IsShown l table) (sym same_layout) (seen_is_shown all.0.shows.layout table
          ((all.0.shows.tables u (ends_now.others u ne ∙ said_so)).seen table.name table seen))

      not_taken : takes_version (said new.list) s_now.live u t.0 ≡ false
      not_taken = beside.takes t.0 ∙ rw (ne_eqb t.0 u (λ same. ne (sym same)), has_begun.continues.1) refl

      walk_on : (after : Option WalkPlace) (rows : KeyedRows)
          → AreToCome size s (shown old.store.dirty shows.image) u table after rows
          → AreToCome size s_now (shown stopped.store.dirty image) u table after rows
      walk_on after rows next = subst (λ (x : Pages). AreToCome size s_now x u table after rows) (sym same_shown)
          (walks_past size (said old.list) s_now t.0 u (shown some.mid.store.dirty some.taken.image)
          (shown stops.at.store.dirty image) all.0.shows.layout all.0.shows.reading sound_now states some.lost.loses
          not_taken table after rows
          (known.walks size o h e t.0 u whole some.taken.rest s s_now (shown old.store.dirty shows.image)
          (shown some.mid.store.dirty some.taken.image) shows.stands.shows some.taken.midway.pages beside fronts falls
          dead_mid.layout dead_mid.reading
          (subst (λ (x : ℕ → TxState). IsSoundBy packed_form size x (shown some.mid.store.dirty some.taken.image)
          dead_mid.layout dead_mid.reading) states dead_mid.sound) table is_shown after rows next))

      next_on : (after : Option WalkPlace) (rows : KeyedRows)
          → AreNext m old (standing_of old stands.numbers stands.tables) u table after rows None
          → AreNext m now (standing_of now stands.numbers stands.tables) u table after rows None
      next_on after rows (i, held, next) =
          let both : Some shows.image ≡ Some i = sym shows.held ∙ held in
          let same : i ≡ shows.image = cc in (
            image,
            its_end.held,
            subst (λ (n : ℕ). AreToCome n s_now (shown stopped.store.dirty image) u table after rows)
                (sym its_end.size) (walk_on after rows
                (subst (λ (k : Image). AreToCome size s (shown old.store.dirty k) u table after rows) same next)),
          )

    -- ---- the entries of the call

    after_is : after_refusal o h t (back_event t point) refusal
        ≡ rolling t.0 ∷ entry (back_event t point) (No refusal) ∷ h
    after_is =
        let at_work : is_active (state_of o h t.0) ≡ true = ap is_active active in rw (given_up, at_work) refl

  walks_now : WalksStay (means m places) old now (Some t.0)
  walks_now u table after rows not_ comes = record {
    opening = comes.opening;
    entries = rolling t.0 ∷ entry (back_event t point) (No refusal) ∷ comes.entries;
    stands = stands_now comes.opening comes.entries comes.stands;
    active = still_active m places (record old { waits = begun.waits; works = old.works; live = old.live }) begun.waits
        new.list stopped.store t.0 Dead ends_now not_active comes.opening
        (entry (back_event t point) (No refusal) ∷ comes.entries) (rolling t.0) refl u not_
        (idle_state comes.opening comes.entries (entry (back_event t point) (No refusal)) refl u ∙ comes.active);
    seen = given_same m places old begun.waits new.list stopped.store t.0 u table.name not_ ∙ comes.seen;
    next = subst (λ (off : Option ℕ). AreNext m now (standing_of now comes.stands.numbers comes.stands.tables) u table
        (place_at places after) rows off) (sym store_on.online)
        (next_on comes.opening comes.entries comes.stands u not_ comes.active table
        (comes.stands.given u table.name table comes.seen) (place_at places after) rows
        (subst (λ (off : Option ℕ). AreNext m old (standing_of old comes.stands.numbers comes.stands.tables) u table
        (place_at places after) rows off) has_begun.continues.0 comes.next));
  }

  -- ---- the whole

  risen_counts : (old.damage ≤ stopped.damage) × (old.shortages ≤ stopped.shortages)
  risen_counts = risen stops.stopping.fault old.damage stopped.damage old.shortages stopped.shortages counted.damage
      counted.shortages (counts m old begun stopped t point refusal stops)

  given_in : given_up_in {T = Unit {0}} t.0 (Err refusal) ≡ Some t.0
  given_in = rw given_up refl

  now_gives : IsGivenUp m places old now t (back_event t point) refusal
  now_gives = record {
    gives_up = λ o h stands. (
      lawful o h stands,
      subst (λ (x : Entries). StandsFor m now o x) (sym (after_is o h stands)) (stands_now o h stands),
    );
    leaves = record {
      keeps = keeps_of m places old now (Some refusal) store_on.goes risen_counts.0 risen_counts.1
          (may_answer m old begun stopped t point refusal stops places now has_begun.continues.0 stops.stopping.told (counts m old begun stopped t point refusal stops));
      tables_stay = tables_of m places old now (Some t.0)
          (λ u name not_. given_same m places old begun.waits new.list stopped.store t.0 u name not_);
      walks_stay = walks_now;
      commits = commits_of m places old now (Some t.0)
          (λ u not_. ap asked_kept (without_others old.works t.0 u (apart_from u t.0 not_)))
          (λ u not_. ap session_kept (without_others old.works t.0 u (apart_from u t.0 not_)))
          (λ u page not_ was none. store_on.unmarked page (sessions_in old.works u) none);
    };
    crash = quiet_of m places old now (λ o h stands told. subst (λ (n : ℕ). LeavesSince m old.store.disk
        stopped.store.disk (HoldsAcknowledged packed_form n o h)) (sym core.pool.page_size) (all o h stands).2)
        store_on.goes.size;
    sessions = subst (λ (who : Option ℕ). SessionsStay (means m places) old now None who) (sym given_in)
        (sessions_end m places old now t.0 apart refl);
  }

  pub given_up_gives : IsGivenUp m places old new t (back_event t point) refusal
  given_up_gives = subst (λ (c : Core D). IsGivenUp m places old c t (back_event t point) refusal) (sym new_is) now_gives
