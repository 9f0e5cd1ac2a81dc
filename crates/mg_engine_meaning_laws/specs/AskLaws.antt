-- A commit is asked for.
use Rattle.std.proofs.Common.{◌≡◌, ◌≢◌, ◌⊎◌, inl, inr, ◌==◌, ◌&&◌, ℕ, Bool, true, false, List, Option, None, Some, Result, Ok, Err, refl, sym, ap, ◌∙◌, subst, arith}
use Rattle.std.specs.Prelude.{OnOk, is_some, unwrap_or}
use Rattle.std.proofs.Math.Path.{fun_ext}
use Rattle.std.proofs.lemmas.Bool.{cases_eq, false≢true}
use Rattle.mg_base.specs.Disk.{Meaning}
use Rattle.mg_base.specs.Image.{Image, page_at}
use Rattle.mg_base.specs.Moments.{started}
use Rattle.mg_base.specs.declared.geometry.Geometry.{Geometry}
use Rattle.mg_base.specs.declared.transaction.TxState.TheVariants.{Active}
use Rattle.mg_model.specs.declared.event.Mode.{Mode}
use Rattle.mg_model.specs.declared.opening.Opening.{Opening}
use Rattle.mg_model.specs.declared.refusal.Refusal.{Refusal}
use Rattle.mg_model.specs.declared.table.Table.{Table}
use Rattle.mg_model.specs.Changes.{KeyedRows}
use Rattle.mg_model.specs.History.{Entries}
use Rattle.mg_model.specs.Machine.{is_of, state_of}
use Rattle.mg_engine_step_laws.specs.reads.Walking.{AreToCome, WalkPlace}
use Rattle.mg_engine_step_laws.specs.commits.PageWrites.{AskingGoesOn}
use Rattle.mg_image.specs.Form.{Pages, packed_form}
use Rattle.mg_image.specs.Inventory.{header_of}
use Rattle.mg_lasting_laws.specs.Crashes.{HoldsAcknowledged}
use Rattle.mg_lasting_laws.specs.Lasting.{LastsOn}
use Rattle.mg_pool.specs.Dirty.{DirtyPages, MarksAll, content_of, is_dirty, is_marked}
use Rattle.mg_pool.specs.Pool.{shown}
use Rattle.mg_pool.specs.declared.pool.Pool.{Pool}
use Rattle.mg_pool_overlay_laws.specs.Needs.{Asked, Sessions}
use Rattle.mg_records.specs.Crashing.{LeavesQuietly}
use Rattle.mg_records.specs.Keeping.{CommitsStay, Keeps, Reads, WalksStay}
use Rattle.mg_space.specs.declared.links.FireLinks.{FireLinks}
use Rattle.mg_engine_step_laws.specs.standing.Standing.{Standing, Stands}
use Rattle.mg_txlist.specs.TxList.{said}
use Rattle.mg_undo.specs.Undo.{State as Undo}
use Rattle.mg_works.specs.Works.{AreApart, Working, given_by, given_to, has_asked, with_work, work_of}
use Rattle.mg_works.specs.WorksLaws.{with_its}
use Rattle.mg_core.specs.declared.parts.Core.{Core}
use Rattle.mg_core.specs.Committing.{Asks, AsksCommit, HasSession}
use Rattle.mg_core.specs.Cores.{IsCore, RefusesCall}
use Rattle.mg_engine_meaning_laws.specs.KnownRecords.{KnowsIts}
use Rattle.mg_engine_meaning_laws.specs.FrameLaws.{apart_from, commits_of, kept_all, kept_with, keeps_of, one_session, quiet_of, same_sessions, sessions_of, store_stands, tables_of, works_with}
use Rattle.mg_engine_meaning_laws.specs.Frames.{MayAnswer, StoreGoesOn, WorksStay}
use Rattle.mg_engine_meaning_laws.specs.PlainTables.{HasPlainTables}
use Rattle.mg_engine_meaning_laws.specs.LawfulLaws.{left_of, memory_of}
use Rattle.mg_engine_meaning_laws.specs.KeptLaws.{kept_with_work}
use Rattle.mg_engine_meaning_laws.specs.Meaning.{AreNext, ComesTo, Places, means, place_at}
use Rattle.mg_engine_meaning_laws.specs.Standings.{HasTips, Numbers, ShowsIt, StandsFor, StandsWhile, Tables, asked_in, asked_kept, mode_kept, session_kept, sessions_in, standing_of, undo_kept}
use Rattle.mg_engine_meaning_laws.specs.StepLaws.{as_standing, refused_none, session_of, shows_of}
use Rattle.mg_engine_meaning_laws.specs.Steps.{AddsNone}

module _ {D P : Type 0} (m : Meaning D) (places : Places P)
    (asking : AskingGoesOn D FireLinks m packed_form) (old : Core D) (t session : ℕ)
    (dirty : DirtyPages) (has : HasSession old t session) (marks : MarksAll old.store.dirty dirty session) where
  abbrev works : List Working
  works = with_work t has_asked old.works

  abbrev store : Pool D FireLinks
  store = record old.store { dirty = dirty }

  abbrev now : Core D
  now = record old {
    store = record old.store { dirty = dirty };
    works = with_work t has_asked old.works;
  }

  stay : WorksStay old.works (with_work t has_asked old.works) t
  stay = works_with t has_asked (λ w. refl) (λ w. refl) old.works (λ w. refl)

  kept : {A : Type 0} (f : Option Working → A) → ((w : Working) → f (Some (has_asked w)) ≡ f (Some w))
      → (u : ℕ) → f (work_of (with_work t has_asked old.works) u) ≡ f (work_of old.works u)
  kept f same = kept_all old.works (with_work t has_asked old.works) t stay f
      (kept_with t has_asked (λ w. refl) (λ w. refl) old.works f same)

  sessions_same : sessions_in (with_work t has_asked old.works) ≡ sessions_in old.works
  sessions_same = same_sessions old.works (with_work t has_asked old.works) t stay

  modes_same : ◌≡◌ {A = ℕ → Mode} (λ u. mode_kept (work_of (with_work t has_asked old.works) u))
      (λ u. mode_kept (work_of old.works u))
  modes_same = fun_ext (kept mode_kept (λ w. refl))

  undos_same : ◌≡◌ {A = ℕ → Undo} (λ u. undo_kept (work_of (with_work t has_asked old.works) u))
      (λ u. undo_kept (work_of old.works u))
  undos_same = fun_ext (kept undo_kept (λ w. refl))

  standing_same : (numbers : Numbers) (tables : Tables)
      → standing_of old numbers tables ≡ standing_of (record old {
        store = record old.store { dirty = dirty };
        works = with_work t has_asked old.works;
      }) numbers tables
  standing_same numbers tables = ap (λ (mode : ℕ → Mode). record (standing_of old numbers tables) { mode = mode })
      (sym modes_same)
      ∙ (ap (λ (sessions : Sessions). record (standing_of old numbers tables) {
        mode = λ u. mode_kept (work_of (with_work t has_asked old.works) u);
        session = sessions;
      }) (sym sessions_same)
      ∙ ap (λ (undo : ℕ → Undo). record (standing_of old numbers tables) {
        mode = λ u. mode_kept (work_of (with_work t has_asked old.works) u);
        session = sessions_in (with_work t has_asked old.works);
        undo = undo;
      }) (sym undos_same))

  asks_now : asked_in (with_work t has_asked old.works) t ≡ true
  asks_now = ap asked_kept (with_its t has_asked (λ w. refl) (λ w. refl) old.works has.work has.its)

  pages_same : (i : Image) → shown old.store.dirty i ≡ shown dirty i
  pages_same i = fun_ext (λ p. ap (λ (c : Option (List ℕ)). unwrap_or c (page_at old.store.dirty.size i p))
      (sym (marks.contents p))
      ∙ ap (λ (n : ℕ). unwrap_or (content_of dirty p) (page_at n i p)) (sym marks.size))

  its_session : sessions_in old.works t ≡ session
  its_session = session_of old t session has

  asking_shows : (o : Opening) (h : Entries) (stands : StandsFor m old o h)
      → ShowsIt m old o h (standing_of old stands.numbers stands.tables)
      → ShowsIt m (record old {
        store = record old.store { dirty = dirty };
        works = with_work t has_asked old.works;
      }) o h (standing_of (record old {
        store = record old.store { dirty = dirty };
        works = with_work t has_asked old.works;
      }) stands.numbers stands.tables)
  asking_shows o h stands shows =
      let both = asking old.store.geometry.size o h t (standing_of old stands.numbers stands.tables) old.store
      (record old.store { dirty = dirty }) shows.image (asked_in old.works)
      (asked_in (with_work t has_asked old.works)) (sessions_in old.works) shows.stands shows.lasts (record {
        marks = subst (MarksAll old.store.dirty dirty) (sym its_session) marks;
        same = refl;
        asks = asks_now;
        others = λ u ne. ap asked_kept (stay.others u ne);
        apart = λ u active same. shows.stands.memory.apart u t active
            (sym (shows.stands.memory.state t) ∙ has.continues.1) same;
      }) in record {
        image = shows.image;
        held = shows.held;
        stands = subst (λ (s : Standing). Stands packed_form old.store.geometry.size o h s
            (Some (shown dirty shows.image))) (standing_same stands.numbers stands.tables) both.0;
        lasts = subst (λ (sessions : Sessions). LastsOn m packed_form o h (record old.store { dirty = dirty })
            (asked_in (with_work t has_asked old.works)) sessions) (sym sessions_same) both.1;
        tips = subst (λ (pages : Pages). HasTips old.list old.store.geometry.size pages)
            (pages_same shows.image) shows.tips;
        catalog = shows.catalog ∙ ap (λ (pages : Pages). (header_of pages).catalog.0) (pages_same shows.image);
        plain_tables = subst (λ (pages : Pages). HasPlainTables old.store.geometry.size (said old.list) pages)
            (pages_same shows.image) shows.plain_tables;
        no_directory = shows.no_directory;
        known = subst (λ (pages : Pages). KnowsIts o.next.0 old.store.geometry.size (said old.list) pages old.directories)
            (pages_same shows.image) shows.known;
      }

  given_same : (u : ℕ) (name : List ℕ)
      → given_to (with_work t has_asked old.works) u name ≡ given_to old.works u name
  given_same u name = kept (λ (w : Option Working). given_by w name) (λ w. refl) u

  pub asking_stands : (o : Opening) (h : Entries) → StandsFor m old o h
      → StandsFor m (record old {
        store = record old.store { dirty = dirty };
        works = with_work t has_asked old.works;
      }) o h
  asking_stands o h stands = record {
    tells = stands.tells;
    grows = stands.grows;
    bases = stands.bases;
    numbers = stands.numbers;
    tables = stands.tables;
    given = λ u name table given. stands.given u name table (sym (given_same u name) ∙ given);
    kept = kept_with_work t has_asked (λ w. refl) (λ w. refl) (λ w. refl) (λ w. refl) old.works
        old.catalog.pointer.0 stands.tables stands.kept;
    stands = subst (λ (off : Option ℕ). StandsWhile m (record old {
      store = record old.store { dirty = dirty };
      works = with_work t has_asked old.works;
    }) o h (standing_of (record old {
      store = record old.store { dirty = dirty };
      works = with_work t has_asked old.works;
    }) stands.numbers stands.tables) off) (sym has.continues.0)
        (asking_shows o h stands (shows_of m old o h stands has.continues.0));
  }

  next_on : (u : ℕ) (table : Table) (after : Option WalkPlace) (rows : KeyedRows) (s s_now : Standing)
      → s.state ≡ s_now.state → s.live ≡ s_now.live → AreNext m old s u table after rows None
      → AreNext m (record old {
        store = record old.store { dirty = dirty };
        works = with_work t has_asked old.works;
      }) s_now u table after rows None
  next_on u table after rows s s_now state bases (i, held, next) = (
    i,
    held,
    subst (λ (pages : Pages). AreToCome old.store.geometry.size s_now pages u table after rows)
        (pages_same i) (as_standing old.store.geometry.size s s_now (shown old.store.dirty i) u table after rows
        state bases next),
  )

  asking_walks : WalksStay (means m places) old (record old {
    store = record old.store { dirty = dirty };
    works = with_work t has_asked old.works;
  }) (Some t)
  asking_walks u table after rows not_ comes =
      let stands_now : StandsFor m (record old {
        store = record old.store { dirty = dirty };
        works = with_work t has_asked old.works;
      }) comes.opening comes.entries = asking_stands comes.opening comes.entries comes.stands in record {
        opening = comes.opening;
        entries = comes.entries;
        stands = stands_now;
        active = comes.active;
        seen = given_same u table.name ∙ comes.seen;
        next = subst (λ (off : Option ℕ). AreNext m (record old {
          store = record old.store { dirty = dirty };
          works = with_work t has_asked old.works;
        }) (standing_of (record old {
          store = record old.store { dirty = dirty };
          works = with_work t has_asked old.works;
        }) stands_now.numbers stands_now.tables) u table (place_at places after) rows off) (sym has.continues.0)
            (next_on u table (place_at places after) rows
            (standing_of old comes.stands.numbers comes.stands.tables) (standing_of (record old {
              store = record old.store { dirty = dirty };
              works = with_work t has_asked old.works;
            }) stands_now.numbers stands_now.tables) refl refl
            (subst (λ (off : Option ℕ). AreNext m old
            (standing_of old comes.stands.numbers comes.stands.tables) u table (place_at places after) rows off)
            has.continues.0 comes.next));
      }

  -- the pages of no other commit are marked otherwise
  asking_commits : AreApart old.works
      → CommitsStay (means m places) old (record old {
        store = record old.store { dirty = dirty };
        works = with_work t has_asked old.works;
      }) (Some t)
  asking_commits apart = commits_of m places old (record old {
    store = record old.store { dirty = dirty };
    works = with_work t has_asked old.works;
  }) (Some t) (λ u not_. ap asked_kept (stay.others u (apart_from u t not_)))
      (λ u not_. ap (λ (s : Sessions). s u) sessions_same)
      (λ u page not_ asked none. marks.others page (sessions_in old.works u)
      (λ same. apart_from u t not_ (one_session old.works u t has.work apart asked has.its
      (same ∙ sym has.session_is))) ∙ none)

  pub asking_goes : AreApart old.works → AddsNone {T = Unit {0}} m places old (record old {
    store = record old.store { dirty = dirty };
    works = with_work t has_asked old.works;
  }) t (Ok tt) (Some t) × (asked_in (with_work t has_asked old.works) t ≡ true)
  asking_goes apart = (
    record {
      answers = λ o h stands. sym ((memory_of m old o h stands).state t) ∙ has.continues.1;
      reads = record {
        stays = asking_stands;
        keeps = keeps_of m places old (record old {
          store = record old.store { dirty = dirty };
          works = with_work t has_asked old.works;
        }) None (record {
          time = (store_stands m old.store).time;
          geometry = refl;
          size = marks.size;
        }) (omega arith) (omega arith) (record { cause = tt; offline = rw has.continues.0 tt; down = refl });
        tables = tables_of m places old (record old {
          store = record old.store { dirty = dirty };
          works = with_work t has_asked old.works;
        }) None (λ u name not_. given_same u name);
        walks_stay = asking_walks;
        commits = asking_commits apart;
      };
      crash = quiet_of m places old (record old {
        store = record old.store { dirty = dirty };
        works = with_work t has_asked old.works;
      }) (λ o h stands told. record {
        since = started m old.store.disk (HoldsAcknowledged packed_form old.store.dirty.size o h)
            (left_of m old o h stands);
        left = left_of m old o h stands;
      }) marks.size;
      sessions = sessions_of m places old (record old {
        store = record old.store { dirty = dirty };
        works = with_work t has_asked old.works;
      }) t stay;
    },
    asks_now,
  )

-- a call of it
pub ask_goes : {D P : Type 0} (m : Meaning D) (places : Places P) → AskingGoesOn D FireLinks m packed_form
    → (old new : Core D) (t : ℕ) (result : Result (Unit {0}) Refusal) → AreApart old.works
    → AsksCommit old new t result
    → AddsNone m places old new t result (Some t) × OnOk result (asked_in new.works t ≡ true)
ask_goes {D} m places asking old new t (Ok x) apart asks =
    subst (λ (c : Core D). AddsNone {T = Unit {0}} m places old c t (Ok tt) (Some t)
    × (asked_in c.works t ≡ true)) (sym (asks.same
    ∙ ap (λ (s : Pool D FireLinks). record old { store = s; works = with_work t has_asked old.works }) asks.store))
    (asking_goes m places asking old t asks.session new.store.dirty asks.of_session asks.marks apart)
ask_goes {D} m places asking old new t (Err refusal) apart (refuses, same) =
    subst (λ (c : Core D). AddsNone {T = Unit {0}} m places old c t (Err refusal) (Some t) × Unit {0}) (sym same)
    (refused_none m places old t refusal (Some t) refuses, tt)
