-- A transaction is taken back to a point: memory and pages of its engine afterwards.
use Rattle.std.proofs.Common.{◌≡◌, ◌≢◌, ◌⊎◌, inl, inr, ap, refl, sym, subst, ◌∙◌, ℕ, Bool, true, false, List, [], ◌∷◌, Option, None, Some}
use Rattle.std.specs.Prelude.{if◌then◌else◌, nat_lt, length}
use Rattle.std.proofs.Math.Path.{fun_ext}
use Rattle.std.proofs.lemmas.Bool.{cases_eq}
use Rattle.mg_base.specs.Disk.{Meaning}
use Rattle.mg_base.specs.Image.{Image}
use Rattle.mg_base.specs.declared.transaction.TxState.TheVariants.{Active}
use Rattle.mg_core.specs.Cores.{Continues, IsCore}
use Rattle.mg_core.specs.declared.parts.Core.{Core}
use Rattle.mg_engine_meaning_laws.specs.KeptLaws.{kept_with_work}
use Rattle.mg_engine_meaning_laws.specs.PlainTables.{HasPlainTables}
use Rattle.mg_engine_meaning_laws.specs.Standings.{AreOfKept, AreSeen, AreTold, HasTips, KeepsWritten, ShowsIt, StandsFor, StandsWhile, asked_in, asked_kept, mode_kept, session_kept, sessions_in, standing_of, undo_kept, written_kept}
use Rattle.mg_engine_meaning_laws.specs.StepLaws.{shows_of}
use Rattle.mg_engine_meaning_laws.specs.BasesLaws.{bases_stay}
use Rattle.mg_engine_step_laws.specs.writes.GoesOn.{HasGoneOn}
use Rattle.mg_engine_step_laws.specs.commits.ListShows.{ListsStay}
use Rattle.mg_engine_step_laws.specs.standing.Standing.{Standing, Stands}
use Rattle.mg_engine_step_laws.specs.reads.Walking.{AreToCome, WalkPlace}
use Rattle.mg_directory.specs.Candidates.{by_table}
use Rattle.mg_engine_meaning_laws.specs.KnownRecords.{KnowsIts}
use Rattle.mg_engine_change_laws.specs.backs.EngineBacks.{EnginesGoBackTo, IsBackEntry, OthersWalkOnBack}
use Rattle.mg_engine_change_laws.specs.backs.Given.{AreGiven, UndoListsGiveKeys}
use Rattle.mg_engine_change_laws.specs.keys.Keys.{CoresTakeAll, HasTakenKeys}
use Rattle.mg_engine_change_laws.specs.keys.BackLists.{KeepsLists, KeysKeepLists}
use Rattle.mg_engine_change_laws.specs.keys.BackPages.{KeysKeepPages}
use Rattle.mg_engine_change_laws.specs.keys.BackWalks.{BackWalksGoOn}
use Rattle.mg_engine_change_laws.specs.backs.Backs.{BacksGoOn, BeginsBack}
use Rattle.mg_engine_change_laws.specs.backs.Memory.{IsBackInMemory}
use Rattle.mg_engine_change_laws.specs.keys.TakingSteps.{StandsMidway}
use Rattle.mg_engine_change_laws.specs.backs.ToTake.{SinceAreTaken, since_point}
use Rattle.mg_engine_step_laws.specs.backs.Midway.{GoesBack, MidwaysBegin}
use Rattle.mg_engine_step_laws.specs.backs.Shown.{ShowsFirst}
use Rattle.mg_engine_step_laws.specs.commits.Unasked.{UnaskingLasts}
use Rattle.mg_grown_catalog_laws.specs.Grown.{makes_alone}
use Rattle.mg_image.specs.Form.{Pages, packed_form}
use Rattle.mg_image.specs.Tables.{Stand, stands_of}
use Rattle.mg_lasting_laws.specs.Crashes.{HoldsAcknowledged, LeavesSince}
use Rattle.mg_lasting_laws.specs.Lasting.{LastsOn}
use Rattle.mg_model.specs.Changes.{KeyedRows}
use Rattle.mg_model.specs.History.{Effect, Entries, Entry}
use Rattle.mg_model.specs.Laws.{OpeningsBegin}
use Rattle.mg_model.specs.Legal.{MayBegin}
use Rattle.mg_model.specs.Machine.{deeds_by, steps, takes_base}
use Rattle.mg_model.specs.Openings.{everyone}
use Rattle.mg_model.specs.declared.change.Change.{Change}
use Rattle.mg_model.specs.declared.change.Point.{Point}
use Rattle.mg_model.specs.declared.change.Point.TheVariants.{LastMark, SavepointNamed}
use Rattle.mg_model.specs.declared.opening.Opening.{Opening}
use Rattle.mg_model.specs.declared.table.Table.{Table}
use Rattle.mg_overlay_laws.specs.Overlays.{left_state}
use Rattle.mg_pool.specs.Pool.{shown}
use Rattle.mg_pool_overlay_laws.specs.Needs.{Asked, Sessions}
use Rattle.mg_space.specs.declared.links.FireLinks.{FireLinks}
use Rattle.mg_image_overlay_laws.specs.kept.KeptImages.{AreFrontStands}
use Rattle.mg_image_overlay_laws.specs.tables.TableOwners.{IsOneOf}
use Rattle.mg_image_overlay_laws.specs.tables.OneLayout.{StandsOneWay}
use Rattle.mg_taking_back.specs.Taking.{TakesBackTo, TakesChanges, not_asking, works_back}
use Rattle.mg_txlist.specs.TxList.{said}
use Rattle.mg_undo.specs.Machine.{first_of, going_to}
use Rattle.mg_undo.specs.Undo.{State as Undo, Taken, TakesBack as GivesAll, after_back_to, ends, give_newest, gives, goal_points, has_point, settled, take_back, take_to}
use Rattle.mg_undo.specs.declared.changes.Change.{Change as Kept}
use Rattle.mg_undo.specs.declared.points.Standing.{Standing as Point_at}
use Rattle.mg_works.specs.Works.{Working, given_by, given_to, unasked, with_undo, with_work, without_tables, work_of}
use Rattle.mg_works.specs.WorksLaws.{with_its, with_others}

-- ---- what is left to take back is of tables that are kept

module _ (catalog : ℕ) (written : List Table) where
  settled_kept : (floor : ℕ) (cs : List Kept) → AreOfKept catalog written cs
      → AreOfKept catalog written (settled floor cs)
  settled_kept floor [] are = tt
  settled_kept floor (c ∷ cs) are = at _ (settled_kept floor cs are.1)
    where
      at : (b : Bool) → AreOfKept catalog written (settled floor cs)
          → AreOfKept catalog written (if b then settled floor cs else c ∷ cs)
      at true more = more
      at false more = are

  newest_kept : (back : Bool) (p : Point_at) (ps : List Point_at) (cs : List Kept) → AreOfKept catalog written cs
      → AreOfKept catalog written (give_newest back p ps cs).after.changes
  newest_kept back p ps [] are = tt
  newest_kept back p ps (c ∷ cs) are = at (nat_lt p.at (length (c ∷ cs)))
    where
      at : (b : Bool) → AreOfKept catalog written (if◌then◌else◌ {A = Taken} b
          (record { given = Some c; after = record { changes = cs; points = p ∷ ps; going_back = back } })
          (record {
            given = None;
            after = record {
              changes = c ∷ cs;
              points = if back then p ∷ ps else ps;
              going_back = false;
            };
          })).after.changes
      at true = are.1
      at false = are

  step_kept : (undo : Undo) (ps : List Point_at) → AreOfKept catalog written undo.changes
      → AreOfKept catalog written (take_to undo ps).after.changes
  step_kept undo [] are = are
  step_kept undo (p ∷ ps) are = newest_kept undo.going_back p ps (settled p.at undo.changes)
      (settled_kept p.at undo.changes are)

  pub all_kept : (old new : Undo) (given : List Kept) → GivesAll old given new → AreOfKept catalog written old.changes
      → AreOfKept catalog written new.changes
  all_kept old new given (ends none after) are = subst (λ (u : Undo). AreOfKept catalog written u.changes) after
      (step_kept old (goal_points old) are)
  all_kept old new given (gives {given = rest} c some more) are = all_kept (take_back old).after new rest more
      (step_kept old (goal_points old) are)

  pub going_kept : (undo : Undo) (point : Point) → AreOfKept catalog written undo.changes
      → AreOfKept catalog written (going_to undo point).changes
  going_kept undo LastMark are = are
  going_kept undo (SavepointNamed name) are = at (has_point undo (Some name)) refl
    where
      at : (b : Bool) → has_point undo (Some name) ≡ b → AreOfKept catalog written (after_back_to undo name).changes
      at true is = rw is are
      at false is = rw is are

-- ---- the engine

module _ {D : Type 0} (m : Meaning D) (openings : OpeningsBegin) (unask : UnaskingLasts packed_form D FireLinks m)
    (lists : ListsStay) (since : SinceAreTaken) (begin : MidwaysBegin packed_form D FireLinks m)
    (first_shows : ShowsFirst packed_form) (undo_gives : UndoListsGiveKeys) (takes_all : CoresTakeAll D m)
    (keep : KeysKeepLists D FireLinks m) (backs : BacksGoOn D FireLinks m) (old new : Core D) (t : ℕ) (point : Point)
    (o : Opening) (h : Entries) (e : Entry) (core : IsCore m old) (takes : TakesBackTo m old new t point)
    (stands : StandsFor m old o h) (is : IsBackEntry o h e t point)
    (shows : ShowsIt m old o h (standing_of old stands.numbers stands.tables)) where
  abbrev s : Standing
  s = standing_of old stands.numbers stands.tables

  abbrev pages : Pages
  pages = shown old.store.dirty shows.image

  abbrev size : ℕ
  size = old.store.geometry.size

  abbrev whole : List Change
  whole = since_point point (deeds_by t (steps o h))

  continues : Continues old t
  continues = takes.has_begun.continues

  work : Working
  work = takes.has_begun.its.0

  work_is : work_of old.works t ≡ Some takes.has_begun.its.0
  work_is = takes.has_begun.its.1

  abbrev begun_works : List Working
  begun_works = with_work t unasked old.works

  abbrev begun : Core D
  begun = record old { waits = takes.begun.waits; works = with_work t unasked old.works }

  begun_is : not_asking t takes.begun ≡ record begun { store = old.store }
  begun_is = ap (λ (c : Core D). not_asking t c) takes.has_begun.ended.same

  -- ---- works

  begun_work : work_of (with_work t unasked old.works) t ≡ Some (unasked takes.has_begun.its.0)
  begun_work = with_its t unasked (λ w. refl) (λ w. refl) old.works takes.has_begun.its.0 work_is

  abbrev end : Undo
  end = takes.takes.end

  abbrev works_now : List Working
  works_now = works_back t takes.takes.end (with_work t unasked old.works)

  abbrev work_now : Working
  work_now = without_tables (with_undo takes.takes.end (unasked takes.has_begun.its.0))

  its_work : work_of works_now t ≡ Some work_now
  its_work = with_its t without_tables (λ w. refl) (λ w. refl)
      (with_work t (with_undo takes.takes.end) (with_work t unasked old.works))
      (with_undo takes.takes.end (unasked takes.has_begun.its.0))
      (with_its t (with_undo takes.takes.end) (λ w. refl) (λ w. refl) (with_work t unasked old.works)
      (unasked takes.has_begun.its.0) begun_work)

  others_work : (u : ℕ) → u ≢ t → work_of works_now u ≡ work_of old.works u
  others_work u ne = with_others t without_tables (λ w. refl) (λ w. refl)
      (with_work t (with_undo takes.takes.end) (with_work t unasked old.works)) u ne
      ∙ (with_others t (with_undo takes.takes.end) (λ w. refl) (λ w. refl) (with_work t unasked old.works) u ne
      ∙ with_others t unasked (λ w. refl) (λ w. refl) old.works u ne)

  all_work : {A : Type 0} (f : Option Working → A) → f (Some work_now) ≡ f (Some takes.has_begun.its.0) → (u : ℕ)
      → f (work_of works_now u) ≡ f (work_of old.works u)
  all_work f same u = at (cases_eq u t)
    where
      at : (u ≡ t) ⊎ (u ≢ t) → f (work_of works_now u) ≡ f (work_of old.works u)
      at (inl e_) = ap (λ (n : ℕ). f (work_of works_now n)) e_ ∙ (ap f its_work ∙ (same ∙ (sym (ap f work_is)
          ∙ ap (λ (n : ℕ). f (work_of old.works n)) (sym e_))))
      at (inr ne) = ap f (others_work u ne)

  -- it asks for nothing
  asked_same : (u : ℕ) → asked_in works_now u ≡ asked_in (with_work t unasked old.works) u
  asked_same u = at (cases_eq u t)
    where
      at : (u ≡ t) ⊎ (u ≢ t) → asked_in works_now u ≡ asked_in (with_work t unasked old.works) u
      at (inl e_) = ap (asked_in works_now) e_ ∙ (ap asked_kept its_work ∙ (sym (ap asked_kept begun_work)
          ∙ ap (asked_in (with_work t unasked old.works)) (sym e_)))
      at (inr ne) = ap asked_kept (others_work u ne
          ∙ sym (with_others t unasked (λ w. refl) (λ w. refl) old.works u ne))

  not_asked : asked_in (with_work t unasked old.works) t ≡ false
  not_asked = ap asked_kept begun_work

  sessions_same : sessions_in works_now ≡ sessions_in old.works
  sessions_same = fun_ext (λ u. all_work session_kept refl u)

  -- ---- the beginning

  opening : MayBegin o
  opening = openings o shows.stands.opening

  goes : GoesBack o h e point s (asked_in (with_work t unasked old.works)) t
  goes = record {
    back = is.back;
    passing = is.passing;
    no_failure = is.no_failure;
    active = continues.1;
    not_asked = not_asked;
    ends = is.ends;
  }

  begins : BeginsBack m o h e point t s old.store shows.image (asked_in (with_work t unasked old.works))
      (sessions_in old.works)
  begins = record {
    stands = shows.stands;
    lasts = unask o h old.store (asked_in old.works) (asked_in (with_work t unasked old.works))
        (sessions_in old.works) t not_asked
        (λ u ne. ap asked_kept (with_others t unasked (λ w. refl) (λ w. refl) old.works u ne)) shows.lasts;
    pool = core.pool;
    held = shows.held;
    tells = stands.tells;
    goes = goes;
  }

  midway : StandsMidway m size o h e t whole whole s old.store old.store pages shows.stands.shows shows.image
      (asked_in (with_work t unasked old.works)) (sessions_in old.works)
  midway = record {
    cache = begin o h e point s old.store shows.image (asked_in (with_work t unasked old.works))
        (sessions_in old.works) t whole begins.stands begins.lasts begins.pool begins.held begins.tells goes
        (since o h e t point is.back);
    pages = first_shows size o h e t whole s pages shows.stands.shows;
  }

  kept_begun : KeepsWritten old.catalog.pointer.0 (with_work t unasked old.works) stands.tables
  kept_begun = kept_with_work t unasked (λ w. refl) (λ w. refl) (λ w. refl) (λ w. refl) old.works
      old.catalog.pointer.0 stands.tables stands.kept

  undo_is : takes.undo ≡ s.undo t
  undo_is = sym takes.has_begun.its.2 ∙ sym (ap undo_kept work_is)

  given_steps : GivesAll (going_to (s.undo t) point) takes.takes.takes.given takes.takes.end
  given_steps = subst (λ (u : Undo). GivesAll (going_to u point) takes.takes.takes.given takes.takes.end) undo_is
      takes.takes.takes.steps

  are_given : AreGiven o h e t (s.number t) whole takes.takes.takes.given
  are_given = undo_gives size (left_state everyone s.state) pages shows.stands.shows.layout shows.stands.shows.reading
      shows.stands.shows.sound o h e point t s takes.takes.takes.given takes.takes.end shows.stands.memory continues.1
      (shows.stands.shows.tables t continues.1) is.back is.may is.leaves given_steps

  -- ---- all keys

  taken : HasTakenKeys m size o h e t whole whole (first_of whole) [] s old.store old.store pages shows.stands.shows
      shows.image (asked_in (with_work t unasked old.works)) (sessions_in old.works) begun takes.takes.taken
  taken = takes_all begun (not_asking t takes.begun) takes.takes.taken s size o h e point t whole whole (first_of whole)
      [] old.store old.store pages shows.stands.shows shows.image (asked_in (with_work t unasked old.works))
      (sessions_in old.works) refl refl opening shows.stands.legal shows.stands.memory goes kept_begun are_given.each
      are_given.keys begun_is (subst (λ (cs : List Kept).
      TakesChanges m t (not_asking t takes.begun) cs takes.takes.taken) are_given.given_is takes.takes.takes.takes) midway
      (record {
        pool_is = core.pool;
        size_is = refl;
        geometry = core.geometry;
        online = continues.0;
        tells = record { told = stands.tells; held = shows.held };
        plain = shows.plain_tables;
      }) shows.catalog

  keeps_lists : KeepsLists size s pages (shown takes.takes.taken.store.dirty taken.image)
  keeps_lists = keep size o h e point s old.store old.store takes.takes.taken.store pages shows.stands.shows shows.image
      taken.image (asked_in (with_work t unasked old.works)) (sessions_in old.works) t whole whole taken.rest
      (first_of whole) opening shows.stands.legal shows.stands.memory goes taken.steps midway

  -- ---- memory

  abbrev now : Core D
  now = record old { waits = takes.begun.waits; store = takes.takes.taken.store; works = works_now }

  abbrev s_now : Standing
  s_now = standing_of now stands.numbers stands.tables

  new_is : new ≡ record old { waits = takes.begun.waits; store = takes.takes.taken.store; works = works_now }
  new_is = takes.takes.same ∙ ap (λ (c : Core D). record c { works = works_back t takes.takes.end c.works }) taken.same

  memory_now : IsBackInMemory t point takes.takes.takes.given s s_now
  memory_now = record {
    limit = refl;
    next = refl;
    state = λ u. refl;
    live = refl;
    over = takes.has_begun.ended.over;
    others = λ u ne. record {
      mode = ap mode_kept (others_work u ne);
      session = ap session_kept (others_work u ne);
      undo = ap undo_kept (others_work u ne);
      number = refl;
      table = λ name. refl;
    };
    mode = all_work mode_kept refl t;
    session = all_work session_kept refl t;
    number = refl;
    table = λ name. refl;
    gave = subst (λ (u : Undo). GivesAll (going_to (s.undo t) point) takes.takes.takes.given u)
        (sym (ap undo_kept its_work)) given_steps;
  }

  gone : HasGoneOn m packed_form size o h e s_now old.store takes.takes.taken.store taken.image
      (asked_in (with_work t unasked old.works)) (sessions_in old.works)
  unfolding begins
  gone = backs o h e point t takes.takes.takes.given s s_now old.store takes.takes.taken.store shows.image taken.image
      (asked_in (with_work t unasked old.works)) (sessions_in old.works) taken.rest begins is.lawful is.whose is.answered
      is.may is.leaves memory_now taken.steps (record {
        pool = taken.knows.pool_is;
        held = taken.knows.tells.held;
        size = taken.knows.size_is;
      })

  -- ---- what it stands for

  given_now : AreSeen works_now stands.tables
  given_now u name table given = at (cases_eq u t)
    where
      at : (u ≡ t) ⊎ (u ≢ t) → stands.tables u name ≡ Some table
      at (inl e_) =
          let none : None ≡ Some table = sym (ap (λ (w : Option Working). given_by w name) its_work)
          ∙ (ap (λ (n : ℕ). given_to works_now n name) (sym e_) ∙ given) in absurd cc
      at (inr ne) = stands.given u name table (sym (ap (λ (w : Option Working). given_by w name) (others_work u ne)) ∙ given)

  told_its : AreTold old.catalog.pointer.0 (Some work_now)
  told_its = all_kept old.catalog.pointer.0 takes.has_begun.its.0.written (going_to takes.undo point) takes.takes.end
      takes.takes.takes.given takes.takes.takes.steps (going_kept old.catalog.pointer.0 takes.has_begun.its.0.written
      takes.undo point (subst (λ (u : Undo). AreOfKept old.catalog.pointer.0 takes.has_begun.its.0.written u.changes)
      takes.has_begun.its.2 (subst (AreTold old.catalog.pointer.0) work_is (stands.kept.told t))))

  kept_now : KeepsWritten old.catalog.pointer.0 works_now stands.tables
  kept_now = record {
    seen = λ u table there. stands.kept.seen u table
        (subst (λ (xs : List Table). IsOneOf xs table) (all_work written_kept refl u) there);
    told = λ u. at u (cases_eq u t);
  }
    where
      at : (u : ℕ) → (u ≡ t) ⊎ (u ≢ t) → AreTold old.catalog.pointer.0 (work_of works_now u)
      at u (inl e_) = subst (AreTold old.catalog.pointer.0) (sym (ap (work_of works_now) e_ ∙ its_work)) told_its
      at u (inr ne) = subst (AreTold old.catalog.pointer.0) (sym (others_work u ne)) (stands.kept.told u)

  lasts_now : LastsOn m packed_form o (e ∷ h) takes.takes.taken.store (asked_in works_now) (sessions_in works_now)
  lasts_now = subst (λ (x : Sessions). LastsOn m packed_form o (e ∷ h) takes.takes.taken.store (asked_in works_now) x)
      (sym sessions_same) (subst (λ (a : Asked). LastsOn m packed_form o (e ∷ h) takes.takes.taken.store a
      (sessions_in old.works)) (sym (fun_ext asked_same)) gone.lasts)

  shows_now : ShowsIt m now o (e ∷ h) s_now
  shows_now = record {
    image = taken.image;
    held = taken.knows.tells.held;
    stands = subst (λ (n : ℕ). Stands packed_form n o (e ∷ h) s_now
        (Some (shown takes.takes.taken.store.dirty taken.image))) (sym taken.knows.size_is) gone.stands;
    lasts = lasts_now;
    tips = subst (λ (n : ℕ). HasTips old.list n (shown takes.takes.taken.store.dirty taken.image))
        (sym taken.knows.size_is) (lists old.list old.list size pages (shown takes.takes.taken.store.dirty taken.image)
        refl refl keeps_lists.tips.next keeps_lists.tips.tips shows.tips);
    catalog = taken.catalog;
    plain_tables = subst (λ (n : ℕ). HasPlainTables n (said old.list) (shown takes.takes.taken.store.dirty taken.image))
        (sym taken.knows.size_is) taken.knows.plain;
    no_directory = shows.no_directory;
    known = subst (λ (n : ℕ). KnowsIts o.next.0 n (said old.list) (shown takes.takes.taken.store.dirty taken.image)
        old.directories) (sym taken.knows.size_is)
        (keeps_lists.known o.next.0 (by_table old.directories.dirs) shows.known);
  }

  stands_now : StandsFor m now o (e ∷ h)
  stands_now = record {
    tells = taken.knows.tells.told;
    grows = record { limbo = stands.grows.limbo; entries = (ap (makes_alone h) is.back, stands.grows.entries) };
    bases = bases_stay o h e (λ u snapshot. ap (λ (f : Effect). takes_base f u snapshot) is.back) stands.bases;
    numbers = stands.numbers;
    tables = stands.tables;
    given = given_now;
    kept = kept_now;
    stands = subst (λ (off : Option ℕ). StandsWhile m now o (e ∷ h) s_now off) (sym taken.knows.online) shows_now;
  }

  pub stands_back : StandsFor m new o (e ∷ h)
      × LeavesSince m old.store.disk new.store.disk (HoldsAcknowledged packed_form old.store.dirty.size o h)
  stands_back = subst (λ (c : Core D). StandsFor m c o (e ∷ h)
      × LeavesSince m old.store.disk c.store.disk (HoldsAcknowledged packed_form old.store.dirty.size o h)) (sym new_is)
      (stands_now, gone.leaves)

  -- ---- the walks of others

  module _ (one_way : StandsOneWay packed_form) (keep_pages : KeysKeepPages D FireLinks m) (walks : BackWalksGoOn) where
    same_first : stands_of shows.stands.shows.layout ≡ stands_of midway.pages.layout
    same_first = ap stands_of (one_way size (left_state everyone s.state) pages shows.stands.shows.layout
        midway.pages.layout shows.stands.shows.reading midway.pages.reading shows.stands.shows.sound
        midway.pages.sound).0

    fronts : AreFrontStands (stands_of shows.stands.shows.layout) (stands_of taken.midway.pages.layout)
    fronts = subst (λ (ss : List Stand). AreFrontStands ss (stands_of taken.midway.pages.layout)) (sym same_first)
        (keep_pages size o h e point s old.store old.store takes.takes.taken.store pages shows.stands.shows shows.image
        taken.image (asked_in (with_work t unasked old.works)) (sessions_in old.works) t whole whole taken.rest
        (first_of whole) opening shows.stands.legal shows.stands.memory goes taken.steps midway taken.midway)

    walk_on : (u : ℕ) → u ≢ t → said old.list u ≡ Active → (table : Table) (after : Option WalkPlace) (rows : KeyedRows)
        → AreToCome size s pages u table after rows
        → AreToCome size s_now (shown takes.takes.taken.store.dirty taken.image) u table after rows
    walk_on u ne active table after rows next = walks size o h e t u whole taken.rest s s_now pages
        (shown takes.takes.taken.store.dirty taken.image) shows.stands.shows taken.midway.pages (record {
          back = continues.1;
          active = active;
          apart = ne;
          takes = λ by. refl;
        }) fronts (λ v. refl) table after rows next

    pub walks_back : (i : Image) → m.held old.store.disk ≡ Some i → (u : ℕ) → u ≢ t → said old.list u ≡ Active
        → (table : Table) (after : Option WalkPlace) (rows : KeyedRows)
        → AreToCome size s (shown old.store.dirty i) u table after rows
        → (k : Image) × (m.held new.store.disk ≡ Some k)
        × AreToCome new.store.geometry.size (standing_of new stands.numbers stands.tables) (shown new.store.dirty k) u
        table after rows
    walks_back i held u ne active table after rows next =
        let both : Some shows.image ≡ Some i = sym shows.held ∙ held in
        let same : i ≡ shows.image = cc in
        subst (λ (c : Core D). (k : Image) × (m.held c.store.disk ≡ Some k)
        × AreToCome c.store.geometry.size (standing_of c stands.numbers stands.tables) (shown c.store.dirty k) u table
        after rows) (sym new_is) (
          taken.image,
          taken.knows.tells.held,
          subst (λ (n : ℕ). AreToCome n s_now (shown takes.takes.taken.store.dirty taken.image) u table after rows)
              (sym taken.knows.size_is) (walk_on u ne active table after rows
              (subst (λ (k : Image). AreToCome size s (shown old.store.dirty k) u table after rows) same next)),
        )

pub others_walk_on_back : {D : Type 0} (m : Meaning D) → OpeningsBegin → UnaskingLasts packed_form D FireLinks m
    → ListsStay → SinceAreTaken → MidwaysBegin packed_form D FireLinks m → ShowsFirst packed_form → UndoListsGiveKeys
    → CoresTakeAll D m → KeysKeepLists D FireLinks m → BacksGoOn D FireLinks m → StandsOneWay packed_form
    → KeysKeepPages D FireLinks m → BackWalksGoOn → OthersWalkOnBack D m
others_walk_on_back m openings unask lists since begin first_shows undo_gives takes_all keep backs one_way keep_pages walks
    old new t point o h e core takes stands is = walks_back m openings unask lists since begin first_shows undo_gives
    takes_all keep backs old new t point o h e core takes stands is
    (shows_of m old o h stands takes.has_begun.continues.0) one_way keep_pages walks

pub engines_go_back_to : {D : Type 0} (m : Meaning D) → OpeningsBegin → UnaskingLasts packed_form D FireLinks m
    → ListsStay → SinceAreTaken → MidwaysBegin packed_form D FireLinks m → ShowsFirst packed_form → UndoListsGiveKeys
    → CoresTakeAll D m → KeysKeepLists D FireLinks m → BacksGoOn D FireLinks m → EnginesGoBackTo D m
engines_go_back_to m openings unask lists since begin first_shows undo_gives takes_all keep backs old new t point o h e
    core takes stands is = stands_back m openings unask lists since begin first_shows undo_gives takes_all keep backs old
    new t point o h e core takes stands is (shows_of m old o h stands takes.has_begun.continues.0)
