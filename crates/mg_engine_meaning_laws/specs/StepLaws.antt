-- Page writes between the entries of a history.
use Rattle.std.proofs.Common.{◌≡◌, ◌≢◌, ◌⊎◌, inl, inr, ◌≤◌, ◌+◌, ◌&&◌, ℕ, Bool, true, false, List, [], ◌∷◌, length, Option, None, Some, Result, Ok, Err, refl, sym, ap, ◌∙◌, subst, arith}
use Rattle.std.specs.Prelude.{is_some, min}
use Rattle.std.proofs.Math.Nat.{min-eq_right}
use Rattle.std.proofs.Math.Path.{fun_ext}
use Rattle.std.proofs.lemmas.Bool.{false≢true}
use Rattle.mg_base.specs.Disk.{MayLeave, Meaning}
use Rattle.mg_base.specs.Image.{Image}
use Rattle.mg_base.specs.Moments.{started}
use Rattle.mg_base.specs.declared.geometry.Geometry.{Geometry}
use Rattle.mg_base.specs.declared.transaction.TxState.{TxState}
use Rattle.mg_base.specs.declared.transaction.TxState.TheVariants.{Active, Committed, Dead, Limbo}
use Rattle.mg_model.specs.declared.opening.Opening.{Opening}
use Rattle.mg_model.specs.declared.refusal.Refusal.{Refusal}
use Rattle.mg_model.specs.declared.refusal.Refusal.TheVariants.{DiskWrite, NotActive, Offline}
use Rattle.mg_model.specs.declared.table.Table.{Table}
use Rattle.mg_model.specs.Answers.{is_active}
use Rattle.mg_model.specs.Changes.{KeyedRows}
use Rattle.mg_model.specs.History.{Entries}
use Rattle.mg_model.specs.Machine.{is_of, state_of}
use Rattle.mg_engine_step_laws.specs.reads.Walking.{AreToCome, WalkPlace, rec_of}
use Rattle.mg_engine_step_laws.specs.commits.PageWrites.{PageWritesFail, PageWritesGoOn}
use Rattle.mg_image.specs.Form.{Pages, packed_form}
use Rattle.mg_image.specs.Inventory.{header_of}
use Rattle.mg_lasting_laws.specs.Crashes.{HoldsAcknowledged, LeavesSince}
use Rattle.mg_lasting_laws.specs.PoolLaws.{HoldsOne}
use Rattle.mg_pool.specs.Dirty.{DirtyPages, IsLeastPage, bytes_of, content_of, entry_in, is_dirty, is_marked, marked_by}
use Rattle.mg_pool.specs.Pool.{shown, taken_out}
use Rattle.mg_pool.specs.Refusal.{FailsWrites}
use Rattle.mg_pool.specs.Run.{HasWritten, TimeGoesOn}
use Rattle.mg_pool.specs.DirtyPage.{DirtyPage}
use Rattle.mg_pool.specs.declared.fault.PoolFault.{PoolFault}
use Rattle.mg_pool.specs.declared.fault.PoolFault.TheVariants as faults
use Rattle.mg_pool.specs.declared.pool.Pool.{Pool}
use Rattle.mg_records.specs.Adding.{AnswersAll, IsRefused}
use Rattle.mg_records.specs.Committing.{WritesOne}
use Rattle.mg_records.specs.Crashing.{LeavesQuietly}
use Rattle.mg_records.specs.Keeping.{CommitsStay, Keeps, Reads, WalksStay, refusal_in}
use Rattle.mg_records.specs.Sessions.{SessionsStay}
use Rattle.mg_space.specs.View.{Tells}
use Rattle.mg_space.specs.declared.links.FireLinks.{FireLinks}
use Rattle.mg_chain.specs.Chains.{takes_version}
use Rattle.mg_image.specs.Sound.{IsSoundBy}
use Rattle.mg_model.specs.Openings.{everyone}
use Rattle.mg_overlay_laws.specs.Overlays.{left_state}
use Rattle.mg_seek.specs.Walks.{records_behind, rows_shown}
use Rattle.mg_snap.specs.Live.{State as Bases}
use Rattle.mg_engine_step_laws.specs.standing.Standing.{Standing, Stands}
use Rattle.mg_txlist.specs.TxList.{said}
use Rattle.mg_works.specs.Works.{Working, work_of}
use Rattle.mg_core.specs.declared.parts.Core.{Core}
use Rattle.mg_core.specs.Committing.{FailsOne, HasSession, StepsCommit}
use Rattle.mg_core.specs.Committing.{WritesOne as CoreWritesOne}
use Rattle.mg_core.specs.Cores.{IsCore, RefusesCall}
use Rattle.mg_engine_meaning_laws.specs.KnownRecords.{KnowsIts}
use Rattle.mg_engine_meaning_laws.specs.FrameLaws.{commits_of, keeps_of, quiet_of, sessions_of, store_stands, tables_of, works_same}
use Rattle.mg_engine_meaning_laws.specs.Frames.{MayAnswer, StoreGoesOn}
use Rattle.mg_engine_meaning_laws.specs.PlainTables.{HasPlainTables}
use Rattle.mg_engine_meaning_laws.specs.LawfulLaws.{left_of, memory_of}
use Rattle.mg_engine_meaning_laws.specs.Meaning.{AreNext, ComesTo, HasWrittenAll, Places, means, place_at}
use Rattle.mg_engine_meaning_laws.specs.MemoryCallLaws.{refused_may}
use Rattle.mg_engine_meaning_laws.specs.Standings.{HasTips, KeepsIt, ShowsIt, StandsFor, StandsWhile, asked_in, session_kept, sessions_in, standing_of}
use Rattle.mg_engine_meaning_laws.specs.Steps.{AddsNone}

-- ---- marks

-- a marked page is dirty
pub marked_dirty : (dirty : DirtyPages) (page who : ℕ) → is_marked dirty page who ≡ true
    → is_dirty dirty page ≡ true
unfolding is_marked content_of
marked_dirty dirty page who marked = at (entry_in dirty.pages page) marked
  where
    at : (entry : Option DirtyPage) → marked_by entry who ≡ true → is_some (bytes_of entry) ≡ true
    at None marked = absurd cc
    at (Some d) marked = refl

-- what is not marked does not come to be marked while pages are written
pub unmarked_run : {D L : Type 0} (m : Meaning D) (old new : Pool D L) (page who : ℕ) → HasWritten m old new
    → is_marked old.dirty page who ≡ false → is_marked new.dirty page who ≡ false
unmarked_run m old new page who run none = at (is_marked new.dirty page who) refl
  where
    at : (b : Bool) → is_marked new.dirty page who ≡ b → is_marked new.dirty page who ≡ false
    at false is = is
    at true is = run.marks page who (marked_dirty new.dirty page who is) ∙ none

-- ---- a store that has gone on

pub run_goes : {D L : Type 0} (m : Meaning D) (old new : Pool D L) → HasWritten m old new
    → StoreGoesOn m old new
run_goes m old new run = record { time = run.time; geometry = run.geometry; size = run.size }

-- time goes on over both of two calls
pub time_then : {D : Type 0} (m : Meaning D) (a b c : D) → TimeGoesOn m a b → TimeGoesOn m b c → TimeGoesOn m a c
time_then m a b c first next = record {
  tells = next.tells ∙ first.tells;
  most_writes = next.most_writes ∙ first.most_writes;
  never_falls = let one = first.never_falls in let two = next.never_falls in omega (arith, one, two);
  failed_writes = let one = first.failed_writes in let two = next.failed_writes in omega (arith, one, two);
  later = λ told. let one = first.later told in let two = next.later (first.tells ∙ told) in omega (arith, one, two);
  keeps = λ told t image early left. let one = first.later told in
      next.keeps (first.tells ∙ told) t image (omega (arith, early, one)) (first.keeps told t image early left);
}

pub fails_goes : {D L : Type 0} (m : Meaning D) (old new : Pool D L) (fault : PoolFault)
    → FailsWrites m old new fault → StoreGoesOn m old new
fails_goes {D} {L} m old new fault fails = record {
  time = time_then m old.disk fails.before.disk new.disk fails.written.time fails.fails.time;
  geometry = ap (λ (p : Pool D L). p.geometry) fails.fails.same ∙ fails.written.geometry;
  size = ap (λ (p : Pool D L). p.dirty.size) fails.fails.same ∙ fails.written.size;
}

-- ---- answers

not_active : (s : TxState) → s ≢ Active → is_active s ≡ false
not_active Active not_ = absurd (not_ refl)
not_active Limbo not_ = refl
not_active Dead not_ = refl
not_active Committed not_ = refl

refused_as : {D : Type 0} (core : Core D) (o : Opening) (h : Entries) (t : ℕ) (refusal : Refusal)
    → said core.list t ≡ state_of o h t → RefusesCall core t refusal → IsRefused o h t refusal
refused_as core o h t (Offline faults) same refuses = refl
refused_as core o h t (NotActive told_) same refuses =
    (sym same ∙ refuses.1, subst (λ (s : TxState). is_active s ≡ false) refuses.1 (not_active (said core.list t) refuses.2))
refused_as core o h t refusal same refuses = absurd refuses

-- ---- the rows to come, by states and bases alone

pub as_standing : (size : ℕ) (s s_now : Standing) (pages : Pages) (u : ℕ) (table : Table) (after : Option WalkPlace)
    (rows : KeyedRows) → s.state ≡ s_now.state → s.live ≡ s_now.live
    → AreToCome size s pages u table after rows → AreToCome size s_now pages u table after rows
as_standing size s s_now pages u table after rows state bases next = record {
  layout = next.layout;
  reading = next.reading;
  sound = subst (λ (state : ℕ → TxState). IsSoundBy packed_form size (left_state everyone state) pages
      next.layout next.reading) state next.sound;
  shown = next.shown;
  stands = next.stands;
  are = next.are ∙ (ap (λ (state : ℕ → TxState). rows_shown (takes_version state s.live u) table next.reading
      (records_behind pages next.shown.stands.stand.data_pages (rec_of after))) state
      ∙ ap (λ (live : Bases). rows_shown (takes_version s_now.state live u) table next.reading
      (records_behind pages next.shown.stands.stand.data_pages (rec_of after))) bases);
}

-- ---- the pages of an engine over which no page write has failed

pub shows_of : {D : Type 0} (m : Meaning D) (core : Core D) (o : Opening) (h : Entries)
    (stands : StandsFor m core o h) → core.store.offline ≡ None
    → ShowsIt m core o h (standing_of core stands.numbers stands.tables)
shows_of m core o h stands online = subst (λ (off : Option ℕ). StandsWhile m core o h
    (standing_of core stands.numbers stands.tables) off) online stands.stands

-- ---- pages are written

module _ {D P : Type 0} (m : Meaning D) (places : Places P) (holds : HoldsOne D m)
    (writes : PageWritesGoOn D FireLinks m packed_form) (old : Core D) (store : Pool D FireLinks)
    (online : old.store.offline ≡ None) (run : HasWritten m old.store store) where
  same_pages : (i j : Image) → m.tells old.store.disk ≡ true → m.held old.store.disk ≡ Some i
      → m.held store.disk ≡ Some j → shown old.store.dirty i ≡ shown store.dirty j
  same_pages i j told held held_now = fun_ext (λ p. sym ((run.out told i j held held_now).shown_same p))

  -- what is held afterwards
  held_now : m.tells old.store.disk ≡ true → (j : Image) × (m.held store.disk ≡ Some j)
  held_now told = let now = holds store.disk (run.tells ∙ told) in (now.0, now.1)

  -- the history, and what crashes leave
  run_both : (o : Opening) (h : Entries) (stands : StandsFor m old o h)
      → (now : (j : Image) × (m.held store.disk ≡ Some j))
      → (shows : ShowsIt m old o h (standing_of old stands.numbers stands.tables))
      → ShowsIt m (record old { store = store }) o h (standing_of old stands.numbers stands.tables)
      × LeavesSince m old.store.disk store.disk (HoldsAcknowledged packed_form old.store.dirty.size o h)
  run_both o h stands (j, held) shows =
      let same : shown old.store.dirty shows.image ≡ shown store.dirty j =
      same_pages shows.image j stands.tells shows.held held in
      let all = writes old.store.geometry.size o h (standing_of old stands.numbers stands.tables)
      old.store store shows.image j (asked_in old.works) (sessions_in old.works) shows.stands
      shows.lasts run (record { told = stands.tells; held = shows.held }) held in (
        record {
          image = j;
          held = held;
          stands = subst (λ (g : Geometry). Stands packed_form g.size o h
              (standing_of old stands.numbers stands.tables) (Some (shown store.dirty j)))
              (sym run.geometry) all.0;
          lasts = all.1;
          tips = subst (λ (g : Geometry). HasTips old.list g.size (shown store.dirty j))
              (sym run.geometry)
              (subst (λ (pages : Pages). HasTips old.list old.store.geometry.size pages) same shows.tips);
          catalog = shows.catalog ∙ ap (λ (pages : Pages). (header_of pages).catalog.0) same;
          plain_tables = subst (λ (g : Geometry). HasPlainTables g.size (said old.list) (shown store.dirty j))
              (sym run.geometry)
              (subst (λ (pages : Pages). HasPlainTables old.store.geometry.size (said old.list) pages) same
              shows.plain_tables);
          no_directory = shows.no_directory;
          known = subst (λ (g : Geometry). KnowsIts o.next.0 g.size (said old.list) (shown store.dirty j) old.directories)
              (sym run.geometry)
              (subst (λ (pages : Pages). KnowsIts o.next.0 old.store.geometry.size (said old.list) pages old.directories)
              same shows.known);
        },
        all.2,
      )

  pub run_stands : (o : Opening) (h : Entries) → StandsFor m old o h
      → StandsFor m (record old { store = store }) o h
  run_stands o h stands = record {
    tells = run.tells ∙ stands.tells;
    grows = stands.grows;
    bases = stands.bases;
    numbers = stands.numbers;
    tables = stands.tables;
    given = stands.given;
    kept = stands.kept;
    stands = subst (λ (off : Option ℕ). StandsWhile m (record old { store = store }) o h
        (standing_of old stands.numbers stands.tables) off) (sym (run.offline ∙ online))
        (run_both o h stands (held_now stands.tells) (shows_of m old o h stands online)).0;
  }

  pub run_quiet : LeavesQuietly (means m places) old (record old { store = store })
  run_quiet = quiet_of m places old (record old { store = store })
      (λ o h stands told. (run_both o h stands (held_now told) (shows_of m old o h stands online)).1) run.size

  next_on : (u : ℕ) (table : Table) (after : Option WalkPlace) (rows : KeyedRows) (s s_now : Standing)
      → s.state ≡ s_now.state → s.live ≡ s_now.live → m.tells old.store.disk ≡ true
      → (now : (j : Image) × (m.held store.disk ≡ Some j))
      → AreNext m old s u table after rows None
      → AreNext m (record old { store = store }) s_now u table after rows None
  next_on u table after rows s s_now state bases told (j, held) (i, was, next) = (
    j,
    held,
    subst (λ (g : Geometry). AreToCome g.size s_now (shown store.dirty j) u table after rows)
        (sym run.geometry)
        (subst (λ (pages : Pages). AreToCome old.store.geometry.size s_now pages u table after rows)
        (same_pages i j told was held) (same_next next)),
  )
    where
      same_next : AreToCome old.store.geometry.size s (shown old.store.dirty i) u table after rows
          → AreToCome old.store.geometry.size s_now (shown old.store.dirty i) u table after rows
      same_next next = as_standing old.store.geometry.size s s_now (shown old.store.dirty i) u table after rows
          state bases next

  pub run_walks : (who : Option ℕ) → WalksStay (means m places) old (record old { store = store }) who
  run_walks who u table after rows not_ comes =
      let stands_now : StandsFor m (record old { store = store }) comes.opening comes.entries =
      run_stands comes.opening comes.entries comes.stands in record {
        opening = comes.opening;
        entries = comes.entries;
        stands = stands_now;
        active = comes.active;
        seen = comes.seen;
        next = subst (λ (off : Option ℕ). AreNext m (record old { store = store })
            (standing_of (record old { store = store }) stands_now.numbers stands_now.tables) u table
            (place_at places after) rows off) (sym (run.offline ∙ online))
            (next_on u table (place_at places after) rows
            (standing_of old comes.stands.numbers comes.stands.tables)
            (standing_of (record old { store = store }) stands_now.numbers stands_now.tables) refl refl
            comes.stands.tells (held_now comes.stands.tells)
            (subst (λ (off : Option ℕ). AreNext m old
            (standing_of old comes.stands.numbers comes.stands.tables) u table (place_at places after) rows off)
            online comes.next));
      }

  pub run_commits : (who : Option ℕ) → CommitsStay (means m places) old (record old { store = store }) who
  run_commits who = commits_of m places old (record old { store = store }) who (λ u not_. refl)
      (λ u not_. refl) (λ u page not_ was none. unmarked_run m old.store store page (sessions_in old.works u)
      run none)

  pub run_keeps : Keeps (means m places) old (record old { store = store }) None
  run_keeps = keeps_of m places old (record old { store = store }) None (run_goes m old.store store run)
      (omega arith) (omega arith) (record { cause = tt; offline = rw online tt; down = run.offline })

  pub run_reads : (walks : Option ℕ) → Reads (means m places) old (record old { store = store }) None walks
  run_reads walks = record {
    stays = run_stands;
    keeps = run_keeps;
    tables = tables_of m places old (record old { store = store }) None (λ u name not_. refl);
    walks_stay = run_walks walks;
    commits = run_commits walks;
  }

-- ---- a page write fails

module _ {D P : Type 0} (m : Meaning D) (places : Places P)
    (failing : PageWritesFail D FireLinks m packed_form) (old : Core D) (store : Pool D FireLinks)
    (count : ℕ) (online : old.store.offline ≡ None) (offline : store.offline ≡ Some count)
    (fails : FailsWrites m old.store store (faults.DiskWrite count)) where
  goes : StoreGoesOn m old.store store
  goes = fails_goes m old.store store (faults.DiskWrite count) fails

  fail_both : (o : Opening) (h : Entries) (stands : StandsFor m old o h)
      → (shows : ShowsIt m old o h (standing_of old stands.numbers stands.tables))
      → KeepsIt m (record old { store = store }) o h (standing_of old stands.numbers stands.tables)
      × LeavesSince m old.store.disk store.disk (HoldsAcknowledged packed_form old.store.dirty.size o h)
  fail_both o h stands shows =
      let all = failing old.store.geometry.size o h (standing_of old stands.numbers stands.tables)
      old.store store shows.image (faults.DiskWrite count) (asked_in old.works) (sessions_in old.works)
      shows.stands shows.lasts fails (record { told = stands.tells; held = shows.held })
      (goes.time.tells ∙ stands.tells) in (
        record {
          stands = subst (λ (g : Geometry). Stands packed_form g.size o h
              (standing_of old stands.numbers stands.tables) None) (sym goes.geometry) all.0;
          left = all.1;
        },
        all.2,
      )

  pub fail_stands : (o : Opening) (h : Entries) → StandsFor m old o h
      → StandsFor m (record old { store = store }) o h
  fail_stands o h stands = record {
    tells = goes.time.tells ∙ stands.tells;
    grows = stands.grows;
    bases = stands.bases;
    numbers = stands.numbers;
    tables = stands.tables;
    given = stands.given;
    kept = stands.kept;
    stands = subst (λ (off : Option ℕ). StandsWhile m (record old { store = store }) o h
        (standing_of old stands.numbers stands.tables) off) (sym offline)
        (fail_both o h stands (shows_of m old o h stands online)).0;
  }

  pub fail_quiet : LeavesQuietly (means m places) old (record old { store = store })
  fail_quiet = quiet_of m places old (record old { store = store })
      (λ o h stands told. (fail_both o h stands (shows_of m old o h stands online)).1) goes.size

  pub fail_walks : (who : Option ℕ) → WalksStay (means m places) old (record old { store = store }) who
  fail_walks who u table after rows not_ comes =
      let stands_now : StandsFor m (record old { store = store }) comes.opening comes.entries =
      fail_stands comes.opening comes.entries comes.stands in record {
        opening = comes.opening;
        entries = comes.entries;
        stands = stands_now;
        active = comes.active;
        seen = comes.seen;
        next = subst (λ (off : Option ℕ). AreNext m (record old { store = store })
            (standing_of (record old { store = store }) stands_now.numbers stands_now.tables) u table
            (place_at places after) rows off) (sym offline) tt;
      }

  unmarked : (page who : ℕ) → is_marked old.store.dirty page who ≡ false
      → is_marked store.dirty page who ≡ false
  unmarked page who none = ap (λ (p : Pool D FireLinks). is_marked p.dirty page who) fails.fails.same
      ∙ unmarked_run m old.store fails.before page who fails.written none

  pub fail_reads : (walks : Option ℕ) → Keeps (means m places) old (record old { store = store })
      (Some (DiskWrite count))
      → Reads (means m places) old (record old { store = store }) (Some (DiskWrite count)) walks
  fail_reads walks keeps = record {
    stays = fail_stands;
    keeps = keeps;
    tables = tables_of m places old (record old { store = store }) None (λ u name not_. refl);
    walks_stay = fail_walks walks;
    commits = commits_of m places old (record old { store = store }) walks (λ u not_. refl) (λ u not_. refl)
        (λ u page not_ was none. unmarked page (sessions_in old.works u) none);
  }

-- ---- nothing has happened

module _ {D P : Type 0} (m : Meaning D) (places : Places P) (old : Core D) where
  still_quiet : LeavesQuietly (means m places) old old
  still_quiet = quiet_of m places old old (λ o h stands told. record {
    since = started m old.store.disk (HoldsAcknowledged packed_form old.store.dirty.size o h)
        (left_of m old o h stands);
    left = left_of m old o h stands;
  }) refl

  still_reads : (refusal : Option Refusal) (walks : Option ℕ) → MayAnswer m places old old refusal
      → Reads (means m places) old old refusal walks
  still_reads refusal walks may = record {
    stays = λ o h stands. stands;
    keeps = keeps_of m places old old refusal (store_stands m old.store) (omega arith) (omega arith) may;
    tables = tables_of m places old old None (λ u name not_. refl);
    walks_stay = λ u table after rows not_ comes. comes;
    commits = commits_of m places old old walks (λ u not_. refl) (λ u not_. refl) (λ u page not_ was none. none);
  }

  pub still_sessions : SessionsStay (means m places) old old None None
  still_sessions = sessions_of m places old old 0 (works_same old.works 0)

  -- a call that is refused
  pub refused_none : {T : Type 0} (t : ℕ) (refusal : Refusal) (walks : Option ℕ) → RefusesCall old t refusal
      → AddsNone {T = T} m places old old t (Err refusal) walks
  refused_none t refusal walks refuses = record {
    answers = λ o h stands. refused_as old o h t refusal ((memory_of m old o h stands).state t) refuses;
    reads = still_reads (Some refusal) walks (refused_may m places old old t refusal refl refuses);
    crash = still_quiet;
    sessions = still_sessions;
  }

  pub still_none : {T : Type 0} (t : ℕ) (x : T) (walks : Option ℕ) → old.store.offline ≡ None
      → said old.list t ≡ Active → AddsNone m places old old t (Ok x) walks
  still_none t x walks online active = record {
    answers = λ o h stands. sym ((memory_of m old o h stands).state t) ∙ active;
    reads = still_reads None walks (record { cause = tt; offline = rw online tt; down = refl });
    crash = still_quiet;
    sessions = still_sessions;
  }

-- ---- a step of a commit

pub session_of : {D : Type 0} (old : Core D) (t session : ℕ) → HasSession old t session
    → sessions_in old.works t ≡ session
session_of old t session has = ap session_kept has.its ∙ has.session_is

few_left : (n : ℕ) → n ≤ 512 → min 512 n ≡ n
few_left n few = min-eq_right few

module _ {D P : Type 0} (m : Meaning D) (places : Places P) (holds : HoldsOne D m)
    (writes : PageWritesGoOn D FireLinks m packed_form) (failing : PageWritesFail D FireLinks m packed_form)
    (old new : Core D) (t : ℕ) (core : IsCore m old) (asks : asked_in old.works t ≡ true) where
  -- all that was marked is written
  all_written : (session : ℕ) → HasSession old t session
      → IsLeastPage (λ page. is_marked old.store.dirty page session) None → HasWrittenAll old t
  all_written session has least = record {
    asked = asks;
    none = λ page. ap (is_marked old.store.dirty page) (session_of old t session has)
        ∙ at page (is_marked old.store.dirty page session) refl;
  }
    where
      at : (page : ℕ) (b : Bool) → is_marked old.store.dirty page session ≡ b
          → is_marked old.store.dirty page session ≡ false
      at page false is = is
      at page true is = let found = least.least_of page is in
          let none : None ≡ Some found.0 = found.1 in absurd cc

  not_written : (session goal : ℕ) → HasSession old t session
      → IsLeastPage (λ page. is_marked old.store.dirty page session) (Some goal) → HasWrittenAll old t → ⊥
  not_written session goal has least all = false≢true (sym (all.none goal)
      ∙ (ap (is_marked old.store.dirty goal) (session_of old t session has) ∙ least.passes goal refl))

  pub step_goes : (result : Result Bool Refusal) → StepsCommit m old new t result
      → AddsNone m places old new t result None × WritesOne (means m places) old new t result
  step_goes (Ok true) (session, has, (same, least)) = subst
      (λ (c : Core D). AddsNone {T = Bool} m places old c t (Ok true) None × WritesOne (means m places) old c t (Ok true))
      (sym same) (
        still_none m places old t true None has.continues.0 has.continues.1,
        (all_written session has least, all_written session has least, refl),
      )
  step_goes (Ok false) (session, has, (goal, page, least, wrote)) = subst
      (λ (c : Core D). AddsNone {T = Bool} m places old c t (Ok false) None × WritesOne (means m places) old c t (Ok false))
      (sym wrote.others) (
        record {
          answers = λ o h stands. sym ((memory_of m old o h stands).state t) ∙ has.continues.1;
          reads = run_reads m places holds writes old new.store has.continues.0 wrote.run None;
          crash = run_quiet m places holds writes old new.store has.continues.0 wrote.run;
          sessions = sessions_of m places old (record old { store = new.store }) t (works_same old.works t);
        },
        (not_written session goal has least, asks, fewer),
      )
    where
      fewer : min 512 (length old.store.dirty.pages) ≡ min 512 (length new.store.dirty.pages) + 1
      fewer = let was = few_left (length old.store.dirty.pages) core.pool.few in
          let less = wrote.fewer in
          let few : length new.store.dirty.pages ≤ 512 = let most = core.pool.few in omega (arith, less, most) in
          let now = few_left (length new.store.dirty.pages) few in omega (arith, was, now, less)
  step_goes (Err (DiskWrite count)) fails = subst
      (λ (c : Core D). AddsNone {T = Bool} m places old c t (Err (DiskWrite count)) None
      × WritesOne (means m places) old c t (Err (DiskWrite count))) (sym fails.others) (
        record {
          answers = λ o h stands. refl;
          reads = fail_reads m places failing old new.store count fails.told.0 fails.told.1 fails.fails None
              (keeps_of m places old (record old { store = new.store }) (Some (DiskWrite count))
              (fails_goes m old.store new.store (faults.DiskWrite count) fails.fails) (omega arith) (omega arith)
              (record { cause = (fails.told.2.2, fails.told.3); offline = rw fails.told.0 tt; down = fails.told.1 }));
          crash = fail_quiet m places failing old new.store count fails.told.0 fails.told.1 fails.fails;
          sessions = sessions_of m places old (record old { store = new.store }) t (works_same old.works t);
        },
        asks,
      )
  step_goes (Err refusal) (refuses, same) = subst
      (λ (c : Core D). AddsNone {T = Bool} m places old c t (Err refusal) None
      × WritesOne (means m places) old c t (Err refusal)) (sym same) (
        refused_none m places old t refusal None refuses,
        asks,
      )
