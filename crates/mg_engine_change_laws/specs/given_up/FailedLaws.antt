-- A page write failed while a change was taken back: memory is as it was, and every crash leaves the history.
use Rattle.std.proofs.Common.{◌≡◌, ◌∙◌, ◌∷◌, ◌≤◌, ℕ, Err, List, None, Option, Some, ap, false, inr, refl, subst, sym, true}
use Rattle.std.proofs.Math.Path.{fun_ext}
use Rattle.mg_base.specs.Disk.{Meaning}
use Rattle.mg_base.specs.declared.geometry.Geometry.{Geometry}
use Rattle.mg_base.specs.declared.numbers.TxNo.{TxNo}
use Rattle.mg_core.specs.Cores.{IsCore}
use Rattle.mg_core.specs.Refusing.{IsRefusal}
use Rattle.mg_core.specs.declared.parts.Core.{Core}
use Rattle.mg_engine_change_laws.specs.backs.Events.{passing_back, whose_back}
use Rattle.mg_engine_change_laws.specs.backs.Known.{KnownOfBacks}
use Rattle.mg_engine_change_laws.specs.faults.Overlays.{overlays_then}
use Rattle.mg_engine_change_laws.specs.backs.Outcomes.{IsGivenUp, back_event}
use Rattle.mg_engine_change_laws.specs.backs.BackBegun.{begins}
use Rattle.mg_engine_change_laws.specs.backs.Backs.{BeginsBack}
use Rattle.mg_engine_change_laws.specs.given_up.StopsAfter.{StopsAfter, TakesSome}
use Rattle.mg_engine_change_laws.specs.given_up.StopsAfterLaws.{counts, ends_over, may_answer, stopped_is, stops_reading}
use Rattle.mg_engine_meaning_laws.specs.FrameLaws.{apart_from, commits_of, keeps_of, kept_all, kept_with, quiet_of, same_modes, same_sessions, sessions_of, tables_of, works_with}
use Rattle.mg_engine_meaning_laws.specs.Frames.{StoreGoesOn, WorksStay}
use Rattle.mg_engine_meaning_laws.specs.KeptLaws.{kept_with_work}
use Rattle.mg_engine_meaning_laws.specs.LawfulLaws.{quiet_count, quiet_event}
use Rattle.mg_engine_meaning_laws.specs.Meaning.{AreNext, Places, means, place_at}
use Rattle.mg_engine_meaning_laws.specs.MemoryCallLaws.{nothing_follows}
use Rattle.mg_engine_meaning_laws.specs.Standings.{KeepsIt, Numbers, ShowsIt, StandsFor, StandsWhile, Tables, asked_in, asked_kept, mode_kept, session_kept, sessions_in, standing_of, undo_kept}
use Rattle.mg_engine_meaning_laws.specs.StepLaws.{fails_goes, shows_of, time_then, unmarked_run}
use Rattle.mg_engine_change_laws.specs.memory.Stages.{FailsReady, TellsOf}
use Rattle.mg_engine_change_laws.specs.rows.MadeLaws.{StoreOn, on_then, read_on}
use Rattle.mg_engine_change_laws.specs.memory.Notes.{AreCounts}
use Rattle.mg_engine_change_laws.specs.rows.StopLaws.{fault_outer, fault_waits, risen}
use Rattle.mg_engine_step_laws.specs.standing.Following.{FollowsEntry}
use Rattle.mg_engine_step_laws.specs.standing.Standing.{Standing, Stands}
use Rattle.mg_image.specs.Form.{packed_form}
use Rattle.mg_lasting_laws.specs.Crashes.{HoldsAcknowledged, LeavesSince}
use Rattle.mg_lasting_laws.specs.Entries.{idle_state}
use Rattle.mg_lasting_laws.specs.Lasting.{LeftOn}
use Rattle.mg_model.specs.History.{Entries, entry}
use Rattle.mg_model.specs.Legal.{IsLawful, is_outer}
use Rattle.mg_model.specs.Machine.{waited_on}
use Rattle.mg_model.specs.declared.answer.Answer.TheVariants.{Fine, No}
use Rattle.mg_model.specs.declared.change.Point.{Point}
use Rattle.mg_model.specs.declared.opening.Opening.{Opening}
use Rattle.mg_model.specs.declared.refusal.Refusal.{Refusal}
use Rattle.mg_model.specs.declared.refusal.Refusal.TheVariants.{DiskWrite}
use Rattle.mg_pool.specs.Dirty.{is_marked}
use Rattle.mg_pool.specs.Pool.{LeavesOverlays}
use Rattle.mg_pool.specs.declared.pool.Pool.{Pool}
use Rattle.mg_records.specs.Keeping.{WalksStay}
use Rattle.mg_records.specs.Sessions.{SessionsStay, given_up_in}
use Rattle.mg_records.specs.TakingBack.{after_refusal, is_given_up}
use Rattle.mg_space.specs.ViewLaws.{tells_on}
use Rattle.mg_space.specs.declared.fault.SpaceFault.{SpaceFault}
use Rattle.mg_space.specs.declared.links.FireLinks.{FireLinks}
use Rattle.mg_taking_back.specs.Taking.{HasBegun}
use Rattle.mg_undo.specs.Undo.{State as Undo}
use Rattle.mg_waits.specs.Waits.{NowWaits, edges_in}
use Rattle.mg_works.specs.Works.{Working, given_by, given_to, unasked, with_work, work_of}
use Rattle.mg_pool.specs.declared.fault.PoolFault.TheVariants as pool_faults

module _ {D P : Type 0} (m : Meaning D) (places : Places P) (known : KnownOfBacks D P m) (old begun stopped : Core D)
    (t : TxNo) (point : Point) (undo : Undo) (refusal : Refusal) (core : IsCore m old) (counted : AreCounts old)
    (has_begun : HasBegun old begun t.0 undo) (stops : StopsAfter m old begun stopped t point refusal)
    (fails : FailsReady m stops.at.store stopped.store stops.stopping.fault) where
  abbrev now : Core D
  now = record old {
    waits = begun.waits;
    works = with_work t.0 unasked old.works;
    store = stopped.store;
    damage = stopped.damage;
    shortages = stopped.shortages;
  }

  refusal_is : refusal ≡ DiskWrite fails.count
  refusal_is = subst (λ (f : SpaceFault). IsRefusal f refusal) fails.is stops.stopping.is

  stays : is_given_up refusal ≡ false
  stays = ap is_given_up refusal_is

  offline_is : stopped.store.offline ≡ Some fails.count
  offline_is = (subst (λ (f : SpaceFault). TellsOf m stops.at.store stopped.store f) fails.is stops.stopping.told).0

  -- ---- the store

  failed_goes : StoreGoesOn m fails.ready stopped.store
  failed_goes = fails_goes m fails.ready stopped.store (pool_faults.DiskWrite fails.count) fails.fails

  ready_on : StoreOn m old.store fails.ready
  ready_on = on_then m old.store stops.at.store fails.ready stops.taken.on
      (read_on m stops.at.store fails.ready fails.keeps (fails.keeps.offline ∙ stops.taken.on.online))

  goes_now : StoreGoesOn m old.store stopped.store
  goes_now = record {
    time = time_then m old.store.disk fails.ready.disk stopped.store.disk ready_on.goes.time failed_goes.time;
    geometry = failed_goes.geometry ∙ ready_on.goes.geometry;
    size = failed_goes.size ∙ ready_on.goes.size;
  }

  unmarked : (page who : ℕ) → is_marked old.store.dirty page who ≡ false
      → is_marked stopped.store.dirty page who ≡ false
  unmarked page who none = ap (λ (p : Pool D FireLinks). is_marked p.dirty page who) fails.fails.fails.same
      ∙ unmarked_run m fails.ready fails.fails.before page who fails.fails.written (ready_on.unmarked page who none)

  crash_now : LeavesOverlays m fails.ready stopped.store
  crash_now = overlays_then m known.counts_now known.holds fails.ready fails.fails.before stopped.store
      fails.fails.written fails.fails.fails.crash

  -- ---- works

  stay : WorksStay old.works (with_work t.0 unasked old.works) t.0
  stay = works_with t.0 unasked (λ w. refl) (λ w. refl) old.works (λ w. refl)

  given_same : (u : ℕ) (name : List ℕ) → given_to (with_work t.0 unasked old.works) u name ≡ given_to old.works u name
  given_same u name = kept_all old.works (with_work t.0 unasked old.works) t.0 stay
      (λ (w : Option Working). given_by w name)
      (kept_with t.0 unasked (λ w. refl) (λ w. refl) old.works (λ (w : Option Working). given_by w name) (λ w. refl)) u

  undos : (u : ℕ) → undo_kept (work_of (with_work t.0 unasked old.works) u) ≡ undo_kept (work_of old.works u)
  undos = kept_all old.works (with_work t.0 unasked old.works) t.0 stay undo_kept
      (kept_with t.0 unasked (λ w. refl) (λ w. refl) old.works undo_kept (λ w. refl))

  same_standing : (numbers : Numbers) (tables : Tables)
      → standing_of (record old { waits = begun.waits; works = old.works; live = old.live }) numbers tables
      ≡ standing_of now numbers tables
  same_standing numbers tables =
      let modes : (λ (u : ℕ). mode_kept (work_of old.works u))
      ≡ (λ (u : ℕ). mode_kept (work_of (with_work t.0 unasked old.works) u))
      = fun_ext (λ u. sym (same_modes old.works (with_work t.0 unasked old.works) t.0 stay u)) in
      let sessions : sessions_in old.works ≡ sessions_in (with_work t.0 unasked old.works)
      = sym (same_sessions old.works (with_work t.0 unasked old.works) t.0 stay) in
      let undone : (λ (u : ℕ). undo_kept (work_of old.works u))
      ≡ (λ (u : ℕ). undo_kept (work_of (with_work t.0 unasked old.works) u))
      = fun_ext (λ u. sym (undos u)) in
      λ i. record (standing_of (record old { waits = begun.waits; works = old.works; live = old.live }) numbers tables) {
        mode = modes i;
        session = sessions i;
        undo = undone i;
      }

  -- ---- over a history

  outer : is_outer (No refusal) ≡ true
  outer = fault_outer stops.stopping.fault refusal stops.stopping.is

  no_wait : waited_on (No refusal) ≡ None
  no_wait = fault_waits stops.stopping.fault refusal stops.stopping.is

  module _ (o : Opening) (h : Entries) (stands : StandsFor m old o h) where
    abbrev size : ℕ
    size = old.store.geometry.size

    abbrev shows : ShowsIt m old o h (standing_of old stands.numbers stands.tables)
    shows = shows_of m old o h stands has_begun.continues.0

    -- what was taken back till then
    abbrev some : TakesSome m old begun stops.at t point o h stands shows
    some = stops.over o h stands shows

    abbrev begins_so : BeginsBack m o h (entry (back_event t point) Fine) point t.0
        (standing_of old stands.numbers stands.tables) old.store shows.image
        (asked_in (with_work t.0 unasked old.works)) (sessions_in old.works)
    begins_so = begins m known old begun t point undo core has_begun o h stands shows

    abbrev s_now : Standing
    s_now = standing_of now stands.numbers stands.tables

    lawful : IsLawful o h (entry (back_event t point) (No refusal))
    lawful = inr outer

    follows : FollowsEntry o h (entry (back_event t point) (No refusal)) (standing_of old stands.numbers stands.tables) s_now
    follows = subst (FollowsEntry o h (entry (back_event t point) (No refusal)) (standing_of old stands.numbers stands.tables))
        (same_standing stands.numbers stands.tables)
        (nothing_follows old begun.waits o h (entry (back_event t point) (No refusal)) t.0 refl (whose_back t point)
        (subst (λ (who : Option ℕ). NowWaits (edges_in old.waits) (edges_in begun.waits) t.0 who) (sym no_wait)
        has_begun.ended.over) stands.numbers stands.tables)

    told_ready : m.tells fails.ready.disk ≡ true
    told_ready = (tells_on m stops.at.store fails.ready some.image fails.keeps some.lost.knows.tells).told

    pub all : Stands packed_form size o (entry (back_event t point) (No refusal) ∷ h) s_now None
        × LeftOn m packed_form o (entry (back_event t point) (No refusal) ∷ h) stopped.store
        × LeavesSince m old.store.disk stopped.store.disk (HoldsAcknowledged packed_form size o h)
    all = known.failed o h (entry (back_event t point) Fine) (entry (back_event t point) (No refusal)) point t.0
        (standing_of old stands.numbers stands.tables) s_now old.store fails.ready stopped.store shows.image
        some.image (asked_in (with_work t.0 unasked old.works)) (sessions_in old.works) begins_so lawful
        (quiet_count (entry (back_event t point) (No refusal)) (passing_back t point)) (quiet_event (entry (back_event t point) (No refusal)) (passing_back t point)) follows
        (stops_reading m known old begun stopped t point undo refusal core has_begun stops o h stands fails.ready fails.keeps) (ends_over m known old begun stopped t point undo refusal core has_begun stops o h stands fails.ready fails.keeps) told_ready crash_now
        (failed_goes.time.tells ∙ told_ready) failed_goes.size

    keeps_it : KeepsIt m now o (entry (back_event t point) (No refusal) ∷ h) s_now
    keeps_it = record {
      stands = subst (λ (n : ℕ). Stands packed_form n o (entry (back_event t point) (No refusal) ∷ h) s_now None)
          (sym (ap (λ (g : Geometry). g.size) goes_now.geometry)) all.0;
      left = all.1;
    }

    abbrev stands_now : StandsFor m now o (entry (back_event t point) (No refusal) ∷ h)
    stands_now = record {
      tells = failed_goes.time.tells ∙ told_ready;
      grows = record { limbo = stands.grows.limbo; entries = (refl, stands.grows.entries) };
      bases = stands.bases;
      numbers = stands.numbers;
      tables = stands.tables;
      given = λ u name table is. stands.given u name table (sym (given_same u name) ∙ is);
      kept = kept_with_work t.0 unasked (λ w. refl) (λ w. refl) (λ w. refl) (λ w. refl) old.works
          old.catalog.pointer.0 stands.tables stands.kept;
      stands = subst (λ (off : Option ℕ). StandsWhile m now o (entry (back_event t point) (No refusal) ∷ h) s_now off) (sym offline_is) keeps_it;
    }

  after_one : (o : Opening) (h : Entries) → after_refusal o h t (back_event t point) refusal ≡ entry (back_event t point) (No refusal) ∷ h
  after_one o h = rw stays refl

  nobody : given_up_in {T = Unit {0}} t.0 (Err refusal) ≡ None
  nobody = rw stays refl

  walks_now : WalksStay (means m places) old now (Some t.0)
  walks_now u table after rows not_ comes = record {
    opening = comes.opening;
    entries = entry (back_event t point) (No refusal) ∷ comes.entries;
    stands = stands_now comes.opening comes.entries comes.stands;
    active = idle_state comes.opening comes.entries (entry (back_event t point) (No refusal)) refl u ∙ comes.active;
    seen = given_same u table.name ∙ comes.seen;
    next = subst (λ (off : Option ℕ). AreNext m now (standing_of now comes.stands.numbers comes.stands.tables) u table
        (place_at places after) rows off) (sym offline_is) tt;
  }

  risen_counts : (old.damage ≤ stopped.damage) × (old.shortages ≤ stopped.shortages)
  risen_counts = risen stops.stopping.fault old.damage stopped.damage old.shortages stopped.shortages counted.damage
      counted.shortages (counts m old begun stopped t point refusal stops)

  now_gives : IsGivenUp m places old now t (back_event t point) refusal
  now_gives = record {
    gives_up = λ o h stands. (
      lawful o h stands,
      subst (λ (x : Entries). StandsFor m now o x) (sym (after_one o h)) (stands_now o h stands),
    );
    leaves = record {
      keeps = keeps_of m places old now (Some refusal) goes_now risen_counts.0 risen_counts.1
          (may_answer m old begun stopped t point refusal stops places now has_begun.continues.0 stops.stopping.told (counts m old begun stopped t point refusal stops));
      tables_stay = tables_of m places old now (Some t.0) (λ u name not_. given_same u name);
      walks_stay = walks_now;
      commits = commits_of m places old now (Some t.0)
          (λ u not_. ap asked_kept (stay.others u (apart_from u t.0 not_)))
          (λ u not_. kept_all old.works (with_work t.0 unasked old.works) t.0 stay session_kept stay.session u)
          (λ u page not_ was none. unmarked page (sessions_in old.works u) none);
    };
    crash = quiet_of m places old now (λ o h stands told. subst (λ (n : ℕ). LeavesSince m old.store.disk
        stopped.store.disk (HoldsAcknowledged packed_form n o h)) (sym core.pool.page_size) (all o h stands).2)
        goes_now.size;
    sessions = subst (λ (who : Option ℕ). SessionsStay (means m places) old now None who) (sym nobody)
        (sessions_of m places old now t.0 stay);
  }

  pub failed_gives : IsGivenUp m places old stopped t (back_event t point) refusal
  failed_gives = subst (λ (c : Core D). IsGivenUp m places old c t (back_event t point) refusal)
      (sym (stopped_is m old begun stopped t point refusal stops)) now_gives
