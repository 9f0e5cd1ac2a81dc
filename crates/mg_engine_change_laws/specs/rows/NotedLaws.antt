-- A write of a row into a table that is kept first: what the engine with the table kept goes on with, the engine before
-- goes on with.
use Rattle.std.proofs.Common.{◌≡◌, ◌⊎◌, inl, inr, ℕ, Bool, true, false, List, Option, None, Some, refl, sym, ap, ◌∙◌, subst}
use Rattle.std.specs.Prelude.{is_some}
use Rattle.mg_base.specs.Disk.{Meaning}
use Rattle.mg_base.specs.declared.numbers.TxNo.{TxNo}
use Rattle.mg_model.specs.declared.answer.Answer.{Answer}
use Rattle.mg_model.specs.declared.answer.Answer.TheVariants.{Fine, No}
use Rattle.mg_model.specs.declared.event.Event.{Event}
use Rattle.mg_model.specs.declared.refusal.Refusal.{Refusal}
use Rattle.mg_model.specs.declared.refusal.Refusal.TheVariants.{Damaged, DatabaseFull, DiskRead, DiskWrite, Offline}
use Rattle.mg_model.specs.declared.table.Table.{Table}
use Rattle.mg_model.specs.Answers.{answer_active, told}
use Rattle.mg_model.specs.Changes.{KeyedRows}
use Rattle.mg_engine_step_laws.specs.standing.Following.{StandsOn}
use Rattle.mg_engine_step_laws.specs.commits.Idle.{IdleGoesOn}
use Rattle.mg_engine_step_laws.specs.standing.Standing.{Standing}
use Rattle.mg_engine_step_laws.specs.reads.Walking.{WalkPlace}
use Rattle.mg_image.specs.Form.{packed_form}
use Rattle.mg_lasting_laws.specs.Changing.{QuietHolds}
use Rattle.mg_pool.specs.Dirty.{is_marked}
use Rattle.mg_pool.specs.Pool.{shown}
use Rattle.mg_records.specs.Keeping.{Causes}
use Rattle.mg_records.specs.Sessions.{SessionsStay}
use Rattle.mg_records.specs.Writing.{event_of}
use Rattle.mg_space.specs.declared.links.FireLinks.{FireLinks}
use Rattle.mg_works.specs.Works.{Working, given_by, given_to, with_written, work_of, written_to}
use Rattle.mg_core.specs.declared.parts.Core.{Core}
use Rattle.mg_core.specs.Cores.{IsCore}
use Rattle.mg_engine_meaning_laws.specs.EventLaws.{refused_gives, short_gives}
use Rattle.mg_engine_meaning_laws.specs.FrameLaws.{kept_all, sessions_of, works_same, works_with}
use Rattle.mg_engine_meaning_laws.specs.Frames.{GivesEvent, WorksStay}
use Rattle.mg_engine_meaning_laws.specs.Meaning.{AreNext, ComesTo, Places, means, place_at}
use Rattle.mg_engine_meaning_laws.specs.Standings.{StandsFor, standing_of}
use Rattle.mg_engine_meaning_laws.specs.StepLaws.{as_standing}
use Rattle.mg_engine_change_laws.specs.memory.KeptTables.{NotedTablesAreKept, NotedWorksStay, NotesStay}
use Rattle.mg_engine_change_laws.specs.rows.Laid.{HasNoted}
use Rattle.mg_engine_change_laws.specs.rows.Made.{MadeRowsGive}
use Rattle.mg_engine_change_laws.specs.memory.Notes.{AreCounts}
use Rattle.mg_engine_change_laws.specs.rows.RefusalLaws.{active_event, whose_event}
use Rattle.mg_engine_change_laws.specs.rows.Refusals.{IsNotLaid, RefusalsGoOn, RefusesStill}
use Rattle.mg_taking_back.specs.Noting.{noted, noted_fails, noted_if, noted_memory, noted_not, with_noted}
use Rattle.mg_engine_change_laws.specs.rows.Steps.{NotLaidGives, NotedFailsGive, NotedWritesGive}

-- the works of others stay, and its own keeps its session and its mode
pub noted_frame : (t : ℕ) (table : Table) (works : List Working) → WorksStay works (noted t table works) t
noted_frame t table works = at (is_some (written_to works t table.pointer.0))
  where
    at : (b : Bool) → WorksStay works (noted_if b t table works) t
    at true = works_same works t
    at false = works_with t (with_written table) (λ w. refl) (λ w. refl) works (λ w. refl)

module _ (works_stay : NotedWorksStay) {D : Type 0} (m : Meaning D) (notes_stay : NotesStay D m) (old : Core D)
    (t : TxNo) (table : Table) (given : given_to old.works t.0 table.name ≡ Some table) where
  abbrev mid : Core D
  mid = with_noted t.0 table old

  mid_works : WorksStay old.works (noted t.0 table old.works) t.0
  mid_works = noted_frame t.0 table old.works

  -- ---- it is lawful

  some_work : (u : ℕ) → is_some (work_of (noted t.0 table old.works) u) ≡ is_some (work_of old.works u)
  some_work = kept_all old.works (noted t.0 table old.works) t.0 mid_works is_some mid_works.active

  pub noted_core : IsCore m old → IsCore m (with_noted t.0 table old)
  noted_core core = record {
    pool = core.pool;
    geometry = core.geometry;
    list = core.list;
    size = core.size;
    tips = core.tips;
    next = core.next;
    drawn = core.drawn;
    active = record {
      has_work = λ u is. some_work u ∙ core.active.has_work u is;
      is_active = λ u is. core.active.is_active u (sym (some_work u) ∙ is);
    };
    catalog = core.catalog;
  }

  pub noted_given : (u : ℕ) (name : List ℕ)
      → given_to (noted t.0 table old.works) u name ≡ given_to old.works u name
  noted_given u name = (works_stay t.0 table old.works).given u name

  -- ---- what it goes on with

  next_on : (s s_now : Standing) (u : ℕ) (its : Table) (after : Option WalkPlace) (rows : KeyedRows) (off : Option ℕ)
      → s.state ≡ s_now.state → s.live ≡ s_now.live → AreNext m old s u its after rows off
      → AreNext m mid s_now u its after rows off
  next_on s s_now u its after rows None state bases (i, held, next) =
      (i, held, as_standing old.store.geometry.size s s_now (shown old.store.dirty i) u its after rows state bases next)
  next_on s s_now u its after rows (Some count) state bases next = tt

  comes_on : (u : ℕ) (its : Table) (after : Option WalkPlace) (rows : KeyedRows) → ComesTo m old u its after rows
      → ComesTo m mid u its after rows
  comes_on u its after rows comes =
      let stands_now : StandsFor m mid comes.opening comes.entries =
      notes_stay old t.0 table comes.opening comes.entries given comes.stands in record {
        opening = comes.opening;
        entries = comes.entries;
        stands = stands_now;
        active = comes.active;
        seen = noted_given u its.name ∙ comes.seen;
        next = next_on (standing_of old comes.stands.numbers comes.stands.tables)
            (standing_of mid stands_now.numbers stands_now.tables) u its after rows old.store.offline refl refl
            comes.next;
      }

  pub noted_gives : {P : Type 0} (places : Places P) (new : Core D) (event : Event) (answer : Answer) (refusal : Option Refusal)
      (tables walks : Option ℕ)
      → GivesEvent m places (with_noted t.0 table old) new event answer refusal tables walks None None
      → GivesEvent m places old new event answer refusal tables walks None None
  noted_gives places new event answer refusal tables walks gives = record {
    adds = λ o h stands. gives.adds o h (notes_stay old t.0 table o h given stands);
    leaves = record {
      keeps = record {
        faults = gives.leaves.keeps.faults;
        damage = gives.leaves.keeps.damage;
        shortages = gives.leaves.keeps.shortages;
        cause = cause_on refusal gives.leaves.keeps.cause;
        offline = gives.leaves.keeps.offline;
        down = gives.leaves.keeps.down;
        tells = gives.leaves.keeps.tells;
        most_writes = gives.leaves.keeps.most_writes;
        time = λ told_. let all = gives.leaves.keeps.time told_ in record { later = all.later; keeps = all.keeps };
        page_limit = gives.leaves.keeps.page_limit;
        sizes = gives.leaves.keeps.sizes;
        holds = gives.leaves.keeps.holds;
        given = gives.leaves.keeps.given;
        places = gives.leaves.keeps.places;
      };
      tables_stay = λ u name its not_ is. gives.leaves.tables_stay u name its not_ (noted_given u name ∙ is);
      walks_stay = λ u its after rows not_ comes. gives.leaves.walks_stay u its after rows not_
          (comes_on u its (place_at places after) rows comes);
      commits = record {
        asked = λ u not_ is. gives.leaves.commits.asked u not_ ((works_stay t.0 table old.works).asked u ∙ is);
        written = λ u not_ is. gives.leaves.commits.written u not_ (record {
          asked = (works_stay t.0 table old.works).asked u ∙ is.asked;
          none = λ page. ap (is_marked old.store.dirty page) ((works_stay t.0 table old.works).session u)
              ∙ is.none page;
        });
      };
    };
    crash = λ o h stands told_. let left = gives.crash o h (notes_stay old t.0 table o h given stands) told_ in
        record { each = left.each; before = left.before };
    sessions = record {
      free = λ session not_ is. gives.sessions.free session not_ (mid_sessions.free session refl is);
      works = λ u session not_ is. gives.sessions.works u session not_ (mid_sessions.works u session refl is);
      ended = λ u session is was. gives.sessions.ended u session is (mid_sessions.works u session refl was);
    };
  }
    where
      mid_sessions : SessionsStay (means m places) old mid None None
      mid_sessions = sessions_of m places old mid t.0 mid_works

      cause_on : (r : Option Refusal) → Causes (means m places) mid new r → Causes (means m places) old new r
      cause_on None cause = cause
      cause_on (Some (DiskRead n)) cause = cause
      cause_on (Some (DiskWrite n)) cause = cause
      cause_on (Some (Damaged page field found wanted)) cause = cause
      cause_on (Some (DatabaseFull limit)) cause = cause
      cause_on (Some (Offline n)) cause = cause
      cause_on (Some r) cause = cause

-- a table that was given is kept then
pub table_noted : {D : Type 0} → NotedTablesAreKept → (old : Core D) (t : TxNo) (table : Table)
    → given_to old.works t.0 table.name ≡ Some table → HasNoted (noted t.0 table old.works) t.0 table
table_noted kept old t table given = at (work_of old.works t.0) refl given
  where
    at : (found : Option Working) → work_of old.works t.0 ≡ found → given_by found table.name ≡ Some table
        → HasNoted (noted t.0 table old.works) t.0 table
    at None none is = absurd cc
    at (Some work) its is = kept t.0 table old.works work its

-- ---- the laws

pub noted_writes_give : {D P : Type 0} (m : Meaning D) → NotedWorksStay → NotedTablesAreKept → NotesStay D m
    → MadeRowsGive D P m → NotedWritesGive D P m
noted_writes_give m works_stay kept notes_stay made places old new t table write core given fits written =
    noted_gives works_stay m notes_stay old t table given places new (event_of t table.name write) Fine None None (Some t.0)
    (made places (with_noted t.0 table old) new t table write
    (noted_core works_stay m notes_stay old t table given core)
    (noted_given works_stay m notes_stay old t table given t.0 table.name ∙ given)
    (table_noted kept old t table given) fits written)

pub noted_fails_give : {D P : Type 0} (m : Meaning D) → NotedWorksStay → NotedTablesAreKept → NotesStay D m
    → IdleGoesOn D FireLinks m packed_form → StandsOn packed_form → QuietHolds packed_form → RefusalsGoOn D P m
    → NotLaidGives D P m → NotedFailsGive D P m
noted_fails_give m works_stay kept notes_stay idle_goes on quiet refusals not_laid places old new t table write refusal
    core counted given fits (noted_not refused) = refused_gives m places idle_goes on quiet old new t.0
    (event_of t table.name write) (λ o h. answer_active (told o h) t.0 (event_of t table.name write)) refusal None
    (Some t.0) (whose_event t table.name write) (λ o h. active_event o h t table.name write) refused
noted_fails_give m works_stay kept notes_stay idle_goes on quiet refusals not_laid places old new t table write refusal
    core counted given fits (noted_memory continues ends is) = subst (λ (r : Refusal).
    GivesEvent m places old new (event_of t table.name write) (No r) (Some r) None (Some t.0) None None) (sym is)
    (short_gives m places idle_goes on quiet old new t.0 (event_of t table.name write) None (Some t.0)
    (whose_event t table.name write) continues ends)
noted_fails_give {D} {P} m works_stay kept notes_stay idle_goes on quiet refusals not_laid places old new t table write
    refusal core counted given fits (noted_fails fails) =
    noted_gives works_stay m notes_stay old t table given places new (event_of t table.name write) (No refusal)
    (Some refusal) None (Some t.0) (at (refusals places mid_ new t table write refusal core_ counted_ given_ fails))
  where
    mid_ : Core D
    mid_ = with_noted t.0 table old

    core_ : IsCore m (with_noted t.0 table old)
    core_ = noted_core works_stay m notes_stay old t table given core

    counted_ : AreCounts (with_noted t.0 table old)
    counted_ = record { damage = counted.damage; shortages = counted.shortages }

    given_ : given_to (noted t.0 table old.works) t.0 table.name ≡ Some table
    given_ = noted_given works_stay m notes_stay old t table given t.0 table.name ∙ given

    at : RefusesStill m places (with_noted t.0 table old) new (event_of t table.name write) refusal t.0
        ⊎ IsNotLaid m (with_noted t.0 table old) new t table write refusal
        → GivesEvent m places (with_noted t.0 table old) new (event_of t table.name write) (No refusal)
        (Some refusal) None (Some t.0) None None
    at (inl still) = still.gives
    at (inr failed) = (not_laid places mid_ new t table write refusal core_ counted_ given_
        (table_noted kept old t table given) fits failed).0
