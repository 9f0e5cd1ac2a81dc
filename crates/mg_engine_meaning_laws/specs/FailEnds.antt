-- A commit is refused, or its page writes fail; and what the call of a commit comes to.
use Rattle.std.proofs.Common.{◌≡◌, ◌⊎◌, inl, inr, ◌<◌, ◌≤◌, ◌/◌, ℕ, List, ◌∷◌, Option, None, Some, Result, Ok, Err, refl, sym, ap, ◌∙◌, subst, arith}
use Rattle.std.specs.Prelude.{MatchResult}
use Rattle.std.proofs.lemmas.Bool.{cases_lt, false≢true}
use Rattle.mg_base.specs.Disk.{Meaning}
use Rattle.mg_base.specs.Image.{Image}
use Rattle.mg_base.specs.declared.geometry.Geometry.{Geometry}
use Rattle.mg_base.specs.declared.numbers.TxNo.{TxNo}
use Rattle.mg_base.specs.declared.transaction.TxState.TheVariants.{Active, Dead}
use Rattle.mg_engine_step_laws.specs.commits.Commits.{CommitsFail, CommitsGoOn, HasFailed, HasNoneLeft}
use Rattle.mg_engine_step_laws.specs.commits.Idle.{IdleGoesOn}
use Rattle.mg_engine_step_laws.specs.writes.GoesOn.{PoolIsKept}
use Rattle.mg_engine_step_laws.specs.tables.Finding.{CommitFinds}
use Rattle.mg_engine_step_laws.specs.reads.Alike.{OthersTakeAlike, WalksStayOver}
use Rattle.mg_image.specs.Form.{packed_form}
use Rattle.mg_image.specs.Inventory.{next_of}
use Rattle.mg_lasting_laws.specs.Changing.{QuietHolds}
use Rattle.mg_lasting_laws.specs.Crashes.{HoldsFrom, asked}
use Rattle.mg_lasting_laws.specs.PoolLaws.{HoldsOne}
use Rattle.mg_model.specs.declared.answer.Answer.TheVariants.{Fine, No}
use Rattle.mg_model.specs.declared.event.Event.TheVariants.{Commit}
use Rattle.mg_model.specs.declared.opening.Opening.{Opening}
use Rattle.mg_model.specs.declared.refusal.Refusal.{Refusal}
use Rattle.mg_model.specs.declared.refusal.Refusal.TheVariants.{DiskWrite, NotActive, Offline}
use Rattle.mg_model.specs.History.{Entries, Entry, entry}
use Rattle.mg_model.specs.Laws.{OpeningsBegin}
use Rattle.mg_model.specs.Legal.{durable_count}
use Rattle.mg_model.specs.Machine.{next_number}
use Rattle.mg_model.specs.NumberLaws.{undrawn_is_dead}
use Rattle.mg_image_overlay_laws.specs.tables.OneLayout.{StandsOneWay}
use Rattle.mg_pool.specs.Fault.{OnlyWrites, TellsFault}
use Rattle.mg_pool.specs.Pool.{shown}
use Rattle.mg_pool.specs.declared.fault.PoolFault.{PoolFault}
use Rattle.mg_pool.specs.declared.fault.PoolFault.TheVariants as faults
use Rattle.mg_pool.specs.declared.pool.Pool.{Pool}
use Rattle.mg_records.specs.Adding.{fine_or}
use Rattle.mg_records.specs.Crashing.{LeavesWith}
use Rattle.mg_records.specs.Keeping.{WalksStay, refusal_in}
use Rattle.mg_records.specs.Sessions.{ended_in}
use Rattle.mg_space.specs.declared.links.FireLinks.{FireLinks}
use Rattle.mg_engine_step_laws.specs.standing.Following.{FollowsEntry, StandsOn}
use Rattle.mg_engine_step_laws.specs.standing.Standing.{Stands}
use Rattle.mg_tip.specs.TipPage.{places as tip_places}
use Rattle.mg_txlist.specs.Ending.{FailsCommit}
use Rattle.mg_txlist.specs.TxList.{tip_in}
use Rattle.mg_waits.specs.Waits.{NowWaits, edges_in}
use Rattle.mg_works.specs.Works.{AreApart}
use Rattle.mg_core.specs.declared.parts.Core.{Core}
use Rattle.mg_core.specs.Cores.{Continues, IsCore, RefusesCall}
use Rattle.mg_core.specs.Ending.{Commits, FailsToCommit, RefusesCommit}
use Rattle.mg_core.specs.Events.{IsRefused}
use Rattle.mg_core.specs.Refusing.{IsRefusalOf}
use Rattle.mg_engine_meaning_laws.specs.EventLaws.{refused_gives}
use Rattle.mg_engine_meaning_laws.specs.FrameLaws.{commits_of, keeps_of, sessions_of, tables_of, works_same}
use Rattle.mg_engine_meaning_laws.specs.Frames.{GivesEvent}
use Rattle.mg_engine_meaning_laws.specs.LawfulLaws.{holds_on}
use Rattle.mg_engine_meaning_laws.specs.Meaning.{AreNext, HasWrittenAll, Places, means, place_at}
use Rattle.mg_engine_meaning_laws.specs.MemoryCallLaws.{nothing_follows}
use Rattle.mg_engine_meaning_laws.specs.Standings.{ShowsIt, StandsFor, StandsWhile, asked_in, sessions_in, standing_of}
use Rattle.mg_engine_meaning_laws.specs.CommitEnds.{commit_gives}
use Rattle.mg_engine_meaning_laws.specs.Ends.{GivesDurable}
use Rattle.mg_engine_meaning_laws.specs.Settling.{GoesUnmarked, history_left, unsettled_goes}

-- ---- it is refused before anything is changed

-- a call is refused so only once a page write has failed before
not_failed : {D : Type 0} (core : Core D) (t : ℕ) (refusal : Refusal) → RefusesCall core t refusal → (n : ℕ)
    → No refusal ≡ No (DiskWrite n) → ⊥
not_failed core t (Offline faults) refuses n same = absurd cc
not_failed core t (NotActive told_) refuses n same = absurd cc
not_failed core t refusal refuses n same = absurd refuses

refused_durable : {D P : Type 0} (m : Meaning D) (places : Places P) (old new : Core D) (t : TxNo)
    (refusal : Refusal) → IsRefused old new t.0 refusal
    → GivesEvent m places old new (Commit t) (No refusal) (Some refusal) (Some t.0) (Some t.0) None None
    → GivesDurable m places old new (Commit t) (No refusal) (Some refusal) (Some t.0) (Some t.0) None
refused_durable {D} m places old new t refusal refused gives = record {
  adds = gives.adds;
  leaves = gives.leaves;
  crash = λ o h stands told. record {
    each = λ c left. turn o h stands c ((gives.crash o h stands told).each c left);
    before = λ moment c early left. other o h stands moment c ((gives.crash o h stands told).before moment c early left);
  };
  sessions = gives.sessions;
}
  where
    sized : new.store.dirty.size ≡ old.store.dirty.size
    sized = ap (λ (c : Core D). c.store.dirty.size) refused.wait.same

    turn : (o : Opening) (h : Entries) → StandsFor m old o h → (c : Image)
        → HoldsFrom packed_form new.store.dirty.size o (asked h) (durable_count h) c
        → HoldsFrom packed_form new.store.dirty.size o (asked (entry (Commit t) (No refusal) ∷ h))
        (durable_count h) c
    turn o h stands c holds = subst (λ (n : ℕ). HoldsFrom packed_form n o
        (asked (entry (Commit t) (No refusal) ∷ h)) (durable_count h) c) (sym sized)
        ((holds_on m places).longer old o h (entry (Commit t) (No refusal)) (durable_count h) c stands
        (inr (not_failed old t.0 refusal refused.refuses))
        (subst (λ (n : ℕ). HoldsFrom packed_form n o (asked h) (durable_count h) c) sized holds))

    other : (o : Opening) (h : Entries) → StandsFor m old o h → (moment : ℕ) (c : Image)
        → m.left old.store.disk moment c
        ⊎ HoldsFrom packed_form new.store.dirty.size o (asked h) (durable_count h) c
        → m.left old.store.disk moment c
        ⊎ HoldsFrom packed_form new.store.dirty.size o (asked (entry (Commit t) (No refusal) ∷ h))
        (durable_count h) c
    other o h stands moment c (inl was) = inl was
    other o h stands moment c (inr holds) = inr (turn o h stands c holds)

-- ---- its page writes fail

module _ {D P : Type 0} (m : Meaning D) (places : Places P) (begins : OpeningsBegin)
    (failing : CommitsFail D FireLinks m packed_form) (old : Core D) (core : IsCore m old)
    (waits : List (ℕ × ℕ)) (store : Pool D FireLinks) (t : TxNo) (n : ℕ) (written : HasWrittenAll old t.0)
    (continues : Continues old t.0) (over : NowWaits (edges_in old.waits) (edges_in waits) t.0 None)
    (told : TellsFault {T = Unit {0}} m old.store store (Err (faults.DiskWrite n)))
    (fails : FailsCommit m old.list old.store store t.0 (faults.DiskWrite n)) where
  abbrev e : Entry
  e = entry (Commit t) (No (DiskWrite n))

  abbrev now : Core D
  now = record old { waits = waits; store = store }

  goes : GoesUnmarked m old.store store
  goes = unsettled_goes m old.store store
      (record { 0 = (tip_in old.list (t.0 / tip_places old.list.size)).page }) fails.bytes n fails.fails

  none_left : HasNoneLeft old.store.dirty (asked_in old.works) (sessions_in old.works) t.0
  none_left = record {
    has_asked = written.asked;
    none_marked = record {
      passes = λ page some. let both : None ≡ Some page = some in absurd cc;
      least_of = λ page is. absurd (false≢true (sym (written.none page) ∙ is));
    };
  }

  follows : (o : Opening) (h : Entries) (stands : StandsFor m old o h)
      → FollowsEntry o h (entry (Commit t) (No (DiskWrite n))) (standing_of old stands.numbers stands.tables)
      (standing_of (record old { waits = waits; store = store }) stands.numbers stands.tables)
  follows o h stands = nothing_follows old waits o h (entry (Commit t) (No (DiskWrite n))) t.0 refl refl over
      stands.numbers stands.tables

  shows_of : (o : Opening) (h : Entries) (stands : StandsFor m old o h)
      → ShowsIt m old o h (standing_of old stands.numbers stands.tables)
  shows_of o h stands = subst (λ (off : Option ℕ). StandsWhile m old o h
      (standing_of old stands.numbers stands.tables) off) continues.0 stands.stands

  failed : (o : Opening) (h : Entries) (stands : StandsFor m old o h)
      → ShowsIt m old o h (standing_of old stands.numbers stands.tables)
      → HasFailed m packed_form old.store.geometry.size o h (entry (Commit t) (No (DiskWrite n)))
      (standing_of (record old { waits = waits; store = store }) stands.numbers stands.tables) old.store store
  failed o h stands shows = failing o h (entry (Commit t) (No (DiskWrite n))) t
      (standing_of old stands.numbers stands.tables)
      (standing_of (record old { waits = waits; store = store }) stands.numbers stands.tables) old.list old.store
      store shows.image n (asked_in old.works) (sessions_in old.works) shows.stands shows.lasts none_left core.pool
      fails (record { told = stands.tells; held = shows.held }) (goes.goes.time.tells ∙ stands.tells)
      (shows.tips t.0 drawn) (inr refl) refl refl continues.1 (follows o h stands)
    where
      drawn : t.0 < next_of (shown old.store.dirty shows.image)
      drawn = at (cases_lt t.0 (next_number o h))
        where
          at : (t.0 < next_number o h) ⊎ (next_number o h ≤ t.0)
              → t.0 < next_of (shown old.store.dirty shows.image)
          at (inl below) = subst (λ (k : ℕ). t.0 < k) (sym (shows.stands.shows.next ∙ shows.stands.memory.next))
              below
          at (inr past) =
              let both : Dead ≡ Active =
              sym (undrawn_is_dead o (begins o shows.stands.opening) h shows.stands.legal t.0 past)
              ∙ (sym (shows.stands.memory.state t.0) ∙ continues.1) in absurd cc

  abbrev stands_now : (o : Opening) (h : Entries) (stands : StandsFor m old o h)
      → StandsFor m (record old { waits = waits; store = store }) o (entry (Commit t) (No (DiskWrite n)) ∷ h)
  stands_now o h stands = record {
    tells = goes.goes.time.tells ∙ stands.tells;
    grows = record { limbo = stands.grows.limbo; entries = (refl, stands.grows.entries) };
    bases = stands.bases;
    numbers = stands.numbers;
    tables = stands.tables;
    given = stands.given;
    kept = stands.kept;
    stands = subst (λ (off : Option ℕ). StandsWhile m (record old { waits = waits; store = store }) o
        (entry (Commit t) (No (DiskWrite n)) ∷ h)
        (standing_of (record old { waits = waits; store = store }) stands.numbers stands.tables) off)
        (sym told.1) (record {
          stands = subst (λ (g : Geometry). Stands packed_form g.size o (entry (Commit t) (No (DiskWrite n)) ∷ h)
              (standing_of (record old { waits = waits; store = store }) stands.numbers stands.tables) None)
              (sym goes.goes.geometry) (failed o h stands (shows_of o h stands)).stands;
          left = (failed o h stands (shows_of o h stands)).lasts;
        });
  }

  walks_left : WalksStay (means m places) old (record old { waits = waits; store = store }) (Some t.0)
  walks_left u table after rows not_ comes = record {
    opening = comes.opening;
    entries = entry (Commit t) (No (DiskWrite n)) ∷ comes.entries;
    stands = stands_now comes.opening comes.entries comes.stands;
    active = comes.active;
    seen = comes.seen;
    next = subst (λ (off : Option ℕ). AreNext m (record old { waits = waits; store = store })
        (standing_of (record old { waits = waits; store = store }) comes.stands.numbers comes.stands.tables) u
        table (place_at places after) rows off) (sym told.1) tt;
  }

  crash_left : LeavesWith (means m places) old (record old { waits = waits; store = store }) (Commit t)
      (No (DiskWrite n))
  crash_left o h stands tells = history_left m places old (record old { waits = waits; store = store }) o h
      (entry (Commit t) (No (DiskWrite n))) goes.goes.size (failed o h stands (shows_of o h stands)).leaves.since

  pub failed_gives : GivesDurable m places old (record old { waits = waits; store = store }) (Commit t)
      (No (DiskWrite n)) (Some (DiskWrite n)) (Some t.0) (Some t.0) None
  failed_gives = record {
    adds = λ o h stands. (inr refl, stands_now o h stands);
    leaves = record {
      keeps = keeps_of m places old (record old { waits = waits; store = store }) (Some (DiskWrite n)) goes.goes
          (omega arith) (omega arith)
          (record { cause = (told.2.2, told.3); offline = rw continues.0 tt; down = told.1 });
      tables_stay = tables_of m places old (record old { waits = waits; store = store }) (Some t.0)
          (λ u name not_. refl);
      walks_stay = walks_left;
      commits = commits_of m places old (record old { waits = waits; store = store }) (Some t.0)
          (λ u not_. refl) (λ u not_. refl)
          (λ u page not_ was none. goes.unmarked page (sessions_in old.works u) none);
    };
    crash = crash_left;
    sessions = sessions_of m places old (record old { waits = waits; store = store }) t.0
        (works_same old.works t.0);
  }

-- ---- the call

module _ {D P : Type 0} (m : Meaning D) (places : Places P) (holds : HoldsOne D m)
    (idle_goes : IdleGoesOn D FireLinks m packed_form) (on : StandsOn packed_form) (quiet : QuietHolds packed_form)
    (one_way : StandsOneWay packed_form) (kept_is : PoolIsKept packed_form D FireLinks) (begins : OpeningsBegin)
    (commits : CommitsGoOn D FireLinks m packed_form) (failing : CommitsFail D FireLinks m packed_form)
    (finds : CommitFinds) (take : OthersTakeAlike) (stay : WalksStayOver) (old new : Core D) (t : TxNo)
    (core : IsCore m old) (apart : AreApart old.works) (written : HasWrittenAll old t.0) where
  -- a fault of page writes, and no other one
  by_fault : (refusal : Refusal) → FailsToCommit m old new t.0 refusal → (fault : PoolFault)
      → IsRefusalOf fault refusal → OnlyWrites {T = Unit {0}} (Err fault)
      → TellsFault {T = Unit {0}} m old.store new.store (Err fault)
      → FailsCommit m old.list old.store new.store t.0 fault
      → GivesDurable m places old new (Commit t) (No refusal) (Some refusal) (Some t.0) (Some t.0) None
  by_fault refusal fails (faults.DiskWrite n) is only told failed =
      subst (λ (r : Refusal). GivesDurable m places old new (Commit t) (No r) (Some r) (Some t.0) (Some t.0) None)
      (sym is) (subst (λ (c : Core D). GivesDurable m places old c (Commit t) (No (DiskWrite n))
      (Some (DiskWrite n)) (Some t.0) (Some t.0) None) (sym fails.same)
      (failed_gives m places begins failing old core new.waits new.store t n written fails.continues fails.over told
      failed))
  by_fault refusal fails (faults.Offline n) is only told failed =
      let both : Some n ≡ None = sym told.0 ∙ fails.continues.0 in absurd cc
  by_fault refusal fails (faults.DiskRead n) is only told failed = absurd only
  by_fault refusal fails (faults.Absent pages) is only told failed = absurd only
  by_fault refusal fails faults.Memory is only told failed = absurd only

  pub commits_give : (result : Result (Unit {0}) Refusal)
      → MatchResult result (λ _. Commits m old new t.0) (RefusesCommit m old new t.0)
      → GivesDurable m places old new (Commit t) (fine_or result) (refusal_in result) (Some t.0) (Some t.0)
      (ended_in t.0 result)
  commits_give (Ok x) gives = subst (λ (c : Core D). GivesDurable m places old c (Commit t) Fine None (Some t.0)
      (Some t.0) (Some t.0)) (sym gives.same) (commit_gives m places holds one_way kept_is begins commits finds
      take stay old core new.waits new.list new.store t written gives.continues gives.over gives.ends gives.bits
      gives.online.1 apart)
  commits_give (Err refusal) (inl refused) = refused_durable m places old new t refusal refused
      (refused_gives m places idle_goes on quiet old new t.0 (Commit t) (λ o h. Fine) refusal (Some t.0) (Some t.0)
      refl (λ o h. refl) refused)
  commits_give (Err refusal) (inr fails) = by_fault refusal fails fails.fault fails.is fails.only fails.told
      fails.fails
