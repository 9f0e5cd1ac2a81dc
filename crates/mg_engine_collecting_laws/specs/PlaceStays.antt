-- A record at a place is collected by an engine for a transaction that was given the table: it is nobody's event. What the
-- engine stands for, whoever walks, asked commits and sessions go on as they were, and a crash leaves what it left.
use Rattle.std.proofs.Common.{◌≡◌, ◌∙◌, ◌⊎◌, ◌+◌, inl, inr, refl, sym, subst, arith, ◌≤◌, ◌^◌, ◌-◌, ℕ, Bool, true, None, Option, Some, Result, Ok, Err}
use Rattle.std.specs.Prelude.{IfErr}
use Rattle.mg_base.specs.Disk.{Meaning}
use Rattle.mg_base.specs.Image.{Image}
use Rattle.mg_base.specs.declared.geometry.Geometry.{Geometry}
use Rattle.mg_base.specs.declared.numbers.RecId.{RecId}
use Rattle.mg_base.specs.declared.numbers.TxNo.{TxNo}
use Rattle.mg_base.specs.declared.transaction.TxState.{TxState}
use Rattle.mg_base.specs.declared.transaction.TxState.TheVariants.{Active}
use Rattle.mg_collecting.specs.Steps.{FailsStep, Steps, not_dropped, not_read, not_taken_out}
use Rattle.mg_core.specs.Cores.{IsCore, IsRefusedBy}
use Rattle.mg_core.specs.Refusing.{NamesLimit}
use Rattle.mg_core.specs.declared.parts.Core.{Core}
use Rattle.mg_core_collecting.specs.Places.{CollectsOn, CollectsPlace, CollectsSettled, FailsPlace, FailsSettled, IsSettled, collects, no_record, not_collected, not_looked, not_told, nothing_settled}
use Rattle.mg_engine_change_laws.specs.rows.Plain.{WritesKeepPlain}
use Rattle.mg_engine_change_laws.specs.memory.StageLaws.{fails_so, fault_may, left_geometry, own_left, own_tells, reads_so, so_then, told_of}
use Rattle.mg_engine_change_laws.specs.memory.Stages.{FailsReady, StaysSo, TellsOf}
use Rattle.mg_engine_change_laws.specs.rows.StopLaws.{fault_outer, risen}
use Rattle.mg_engine_meaning_laws.specs.Counts.{HasCounts}
use Rattle.mg_engine_meaning_laws.specs.FrameLaws.{commits_of, is_apart, keeps_of, sessions_of, store_stands, tables_of, works_same}
use Rattle.mg_engine_meaning_laws.specs.Frames.{MayAnswer}
use Rattle.mg_engine_meaning_laws.specs.Meaning.{Places, means}
use Rattle.mg_engine_meaning_laws.specs.Standings.{sessions_in}
use Rattle.mg_engine_meaning_laws.specs.StepLaws.{refused_none}
use Rattle.mg_engine_meaning_laws.specs.Steps.{AddsNone}
use Rattle.mg_engine_meaning_laws.specs.StillLaws.{still_quiet}
use Rattle.mg_engine_step_laws.specs.writes.Batches.{ReadsLast, RowsLastStill}
use Rattle.mg_engine_step_laws.specs.commits.ListShows.{ListsStay, TipsStayOn}
use Rattle.mg_engine_step_laws.specs.commits.PageWrites.{PageWritesFail}
use Rattle.mg_generation_laws.specs.Laws.{CoveredMayGo, ErasedMayGo}
use Rattle.mg_heap.specs.Listed.{IsRecordOf}
use Rattle.mg_heap.specs.Stands.{TablesAreWalked}
use Rattle.mg_image.specs.Form.{packed_coding, packed_form}
use Rattle.mg_image.specs.ReadingLaws.{RowsAreOne}
use Rattle.mg_image_overlay_laws.specs.tables.OneLayout.{StandsOneWay}
use Rattle.mg_lasting_laws.specs.PoolLaws.{HoldsOne}
use Rattle.mg_model.specs.Laws.{OpeningsBegin}
use Rattle.mg_model.specs.Legal.{is_outer}
use Rattle.mg_model.specs.declared.answer.Answer.TheVariants.{No}
use Rattle.mg_model.specs.declared.refusal.Refusal.{Refusal}
use Rattle.mg_model.specs.declared.refusal.Refusal.TheVariants.{NotActive, Offline}
use Rattle.mg_model.specs.declared.table.Table.{Table}
use Rattle.mg_pool.specs.Pool.{shown}
use Rattle.mg_pool.specs.declared.pool.Pool.{Pool}
use Rattle.mg_records.specs.Crashing.{LeavesQuietly}
use Rattle.mg_records.specs.Keeping.{Reads, refusal_in}
use Rattle.mg_records.specs.Sessions.{SessionsStay}
use Rattle.mg_space.specs.View.{KeepsStore, Tells}
use Rattle.mg_space.specs.declared.fault.SpaceFault.{SpaceFault}
use Rattle.mg_space.specs.declared.links.FireLinks.{FireLinks}
use Rattle.mg_txlist.specs.TxList.{said}
use Rattle.mg_works.specs.Works.{given_to}
use Rattle.mg_engine_collecting_laws.specs.CoreStays.{HasInNamed, steps_so}
use Rattle.mg_engine_collecting_laws.specs.PlaceNamed.{core_behind, given_works, named_behind}
use Rattle.mg_engine_collecting_laws.specs.RunStays.{steps_on}

-- A call is nobody's event: no entry comes to the history, all go on as they were, and a crash leaves what it left. It is
-- refused only by what comes from outside.
pub record IsNobodysEvent {D P T : Type 0} (m : Meaning D) (places : Places P) (old new : Core D)
    (result : Result T Refusal) : Type 0 where
  pub outside : IfErr result (λ refusal. is_outer (No refusal) ≡ true)
  pub reads : Reads (means m places) old new (refusal_in result) None
  pub crash : LeavesQuietly (means m places) old new
  pub sessions : SessionsStay (means m places) old new None None

-- so it is with the collection of a record at a place of a table that was given to a transaction
abbrev pub CollectionsAreNobodys : (D P : Type 0) → Meaning D → Type 0
CollectionsAreNobodys D P m = (places : Places P) (old new : Core D) (t : TxNo) (table : Table) (rec : RecId)
    (result : Result Bool Refusal) → IsCore m old → HasCounts old → given_to old.works t.0 table.name ≡ Some table
    → CollectsPlace m old new t table rec result → IsNobodysEvent m places old new result

-- a call of one who works is refused only because a page write has failed
refused_outer : (offline : Option ℕ) (state : TxState) (refusal : Refusal) → state ≡ Active
    → IsRefusedBy offline state refusal → is_outer (No refusal) ≡ true
refused_outer offline state (Offline faults) works refuses = refl
refused_outer offline state (NotActive told) works refuses = absurd (refuses.2 works)
refused_outer offline state refusal works refuses = absurd refuses

-- ---- where a collection stops

-- From a store on pages were only read, or a page write failed, and the fault is told.
pub record StopsFrom {D : Type 0} (m : Meaning D) (before after : Pool D FireLinks) (fault : SpaceFault) : Type 0 where
  pub left : KeepsStore m before after ⊎ FailsReady m before after fault
  pub told : TellsOf m before after fault

pub stops_from : {D : Type 0} (m : Meaning D) (rec : RecId) (before after : Pool D FireLinks) (fault : SpaceFault)
    → FailsStep m rec before after fault → StopsFrom m before after fault
stops_from m rec before after fault (not_read fails) =
    record { left = inl fails.keeps; told = told_of m before after fault fails.told }
stops_from m rec before after fault (not_dropped holder newer follows own) =
    record { left = own_left m before after _ _ fault own; told = own_tells m before after _ _ fault own }
stops_from m rec before after fault (not_taken_out link leads own) =
    record { left = own_left m before after _ _ fault own; told = own_tells m before after _ _ fault own }

module _ (one : RowsAreOne packed_coding) (one_way : StandsOneWay packed_form) (on : TipsStayOn) (lists : ListsStay)
    (keep_plain : WritesKeepPlain) (covered : CoveredMayGo) (erased : ErasedMayGo) (begins : OpeningsBegin)
    (walked : TablesAreWalked) {D P : Type 0} (m : Meaning D) (last : RowsLastStill D FireLinks m packed_form)
    (reads_last : ReadsLast D FireLinks m packed_form) (holds : HoldsOne D m)
    (failing : PageWritesFail D FireLinks m packed_form) (places : Places P) (old : Core D) (core : IsCore m old)
    (counted : HasCounts old) (t : TxNo) (table : Table) (rec : RecId)
    (given : given_to old.works t.0 table.name ≡ Some table) (up : old.store.offline ≡ None) where
  -- ---- behind what was read

  module _ (ready : Pool D FireLinks) (keeps : KeepsStore m old.store ready) where
    abbrev mid : Core D
    mid = record old { store = ready }

    mid_up : ready.offline ≡ None
    mid_up = keeps.offline ∙ up

    here : ((image : Image) → Tells m old.store.disk image → IsRecordOf (shown old.store.dirty image) table.pointer.0 rec)
        → ((image : Image) → Tells m old.store.disk image → IsSettled (shown old.store.dirty image) (said old.list) rec)
        → HasInNamed m mid mid_up rec
    unfolding mid_up
    here is_record settled = named_behind m old core ready keeps walked up t.0 table rec given is_record settled

    read_so : (u : ℕ) → StaysSo m places old (record old { store = ready }) u
    read_so u = reads_so m places begins reads_last old ready old.damage old.shortages u keeps

    run_so : HasInNamed m mid mid_up rec → (some : Bool) (now : Pool D FireLinks)
        → Steps m (said old.list) old.live rec ready some now → (u : ℕ)
        → StaysSo m places old (record old { store = now }) u
    run_so its some now steps u = so_then m places old mid (record old { store = now }) u (read_so u)
        (steps_so one one_way on lists keep_plain covered erased begins m last reads_last holds mid
        (core_behind m old core ready keeps) mid_up rec its some now steps places u)

  -- ---- the record was collected, or left

  settled_so : (store : Pool D FireLinks) (gone : Bool)
      → CollectsSettled m old.store store (said old.list) old.live table rec gone
      → (u : ℕ) → StaysSo m places old (record old { store = store }) u
  settled_so store gone (no_record none keeps online why) u = read_so store keeps u
  settled_so store gone (nothing_settled none keeps online why) u = read_so store keeps u
  settled_so store gone (collects ready keeps online is_record settled collected) u =
      run_so ready keeps (here ready keeps is_record settled) gone store collected.collected.steps u

  -- ---- or it went no further

  record FailsFrom (store : Pool D FireLinks) (fault : SpaceFault) : Type 0 where
    before : Pool D FireLinks
    so : (u : ℕ) → StaysSo m places old (record old { store = before }) u
    up_then : before.offline ≡ None
    stops : StopsFrom m before store fault

  fails_from : (store : Pool D FireLinks) (fault : SpaceFault)
      → FailsSettled m old.store store (said old.list) old.live table rec fault → FailsFrom store fault
  fails_from store fault (not_told fails) = record {
    before = old.store;
    so = λ u. still u;
    up_then = up;
    stops = record { left = inl fails.keeps; told = told_of m old.store store fault fails.told };
  }
    where
      still : (u : ℕ) → StaysSo m places old (record old { store = old.store }) u
      still u = record {
        stands = λ o h stands. stands;
        quiet = still_quiet m places old;
        goes = store_stands m old.store;
        walks = λ v its after rows not_ comes. comes;
        unmarked = λ page who none. none;
      }
  fails_from store fault (not_looked ready keeps online is_record fails) = record {
    before = ready;
    so = read_so ready keeps;
    up_then = mid_up ready keeps;
    stops = record { left = inl fails.keeps; told = told_of m ready store fault fails.told };
  }
  fails_from store fault (not_collected ready keeps online is_record settled fails) = record {
    before = fails.now;
    so = run_so ready keeps (here ready keeps is_record settled) fails.some fails.now fails.steps;
    up_then = (steps_on m (said old.list) old.live rec ready (mid_up ready keeps) fails.some fails.now
        fails.steps).online;
    stops = stops_from m rec fails.now store fault fails.fails;
  }

  -- ---- what comes of it

  module _ (new : Core D) (refusal : Option Refusal) (damage shortages : ℕ)
      (so : (u : ℕ) → StaysSo m places old (record old {
        store = new.store;
        damage = damage;
        shortages = shortages;
      }) u) (damaged : old.damage ≤ damage) (short : old.shortages ≤ shortages)
      (may : MayAnswer m places old (record old {
        store = new.store;
        damage = damage;
        shortages = shortages;
      }) refusal) where
    abbrev now : Core D
    now = record old { store = new.store; damage = damage; shortages = shortages }

    reads : Reads (means m places) old now refusal None
    reads = record {
      stays = λ o h stands. (so 0).stands o h stands;
      keeps = keeps_of m places old now refusal (so 0).goes damaged short may;
      tables = tables_of m places old now None (λ u name not_. refl);
      walks_stay = λ u its after rows not_ comes. (so (u + 1)).walks u its after rows
          (is_apart u (u + 1) (λ same. absurd (omega (arith, same)))) comes;
      commits = commits_of m places old now None (λ u not_. refl) (λ u not_. refl)
          (λ u page not_ was none. (so 0).unmarked page (sessions_in old.works u) none);
    }

  goes : (new : Core D) (gone : Bool) → CollectsOn m old new t table rec gone
      → IsNobodysEvent m places old new (Ok gone)
  goes new gone is = subst (λ (c : Core D). IsNobodysEvent {T = Bool} m places old c (Ok gone)) (sym is.same) (record {
    outside = tt;
    reads = reads new None old.damage old.shortages (settled_so new.store gone is.collected) (omega arith) (omega arith)
        (record { cause = tt; offline = rw up tt; down = online_then ∙ sym up });
    crash = (settled_so new.store gone is.collected 0).quiet;
    sessions = sessions_of m places old (record old { store = new.store }) t.0 (works_same old.works t.0);
  })
    where
      online_then : new.store.offline ≡ None
      online_then = by is.collected
        where
          by : CollectsSettled m old.store new.store (said old.list) old.live table rec gone → new.store.offline ≡ None
          by (no_record none keeps online why) = online.1
          by (nothing_settled none keeps online why) = online.1
          by (collects ready keeps online is_record settled collected) = (steps_on m (said old.list) old.live rec ready
              (mid_up ready keeps) gone new.store collected.collected.steps).online

  fails : (new : Core D) (refusal : Refusal) → FailsPlace m old new t table rec refusal
      → IsNobodysEvent {T = Bool} m places old new (Err refusal)
  fails new refusal is = subst (λ (c : Core D). IsNobodysEvent {T = Bool} m places old c (Err refusal)) (sym is.same)
      (record {
        outside = fault_outer is.fault refusal is.is;
        reads = reads new (Some refusal) new.damage new.shortages stopped_so grown.0 grown.1 may;
        crash = (stopped_so 0).quiet;
        sessions = sessions_of m places old stopped t.0 (works_same old.works t.0);
      })
    where
      stopped : Core D
      stopped = record old { store = new.store; damage = new.damage; shortages = new.shortages }

      from : FailsFrom new.store is.fault
      from = fails_from new.store is.fault is.fails

      stopped_so : (u : ℕ) → StaysSo m places old stopped u
      stopped_so u = by from.stops.left from.stops.told
        where
          by : KeepsStore m from.before new.store ⊎ FailsReady m from.before new.store is.fault
              → TellsOf m from.before new.store is.fault → StaysSo m places old stopped u
          by (inl keeps) told = so_then m places old (record old { store = from.before }) stopped u (from.so u)
              (reads_so m places begins reads_last (record old { store = from.before }) new.store new.damage
              new.shortages u keeps)
          by (inr fails_) told = so_then m places old (record old {
            store = fails_.ready;
            damage = new.damage;
            shortages = new.shortages;
          }) stopped u
              (so_then m places old (record old { store = from.before }) (record old {
                store = fails_.ready;
                damage = new.damage;
                shortages = new.shortages;
              }) u (from.so u) (reads_so m places begins reads_last (record old { store = from.before }) fails_.ready
              new.damage new.shortages u fails_.keeps))
              (fails_so m places failing (record old {
                store = fails_.ready;
                damage = new.damage;
                shortages = new.shortages;
              }) new.store fails_.count u (fails_.keeps.offline ∙ from.up_then)
              (subst (TellsOf m from.before new.store) fails_.is told).0 fails_.fails)

      grown : (old.damage ≤ new.damage) × (old.shortages ≤ new.shortages)
      grown = risen is.fault old.damage new.damage old.shortages new.shortages few.0 few.1 is.counts
        where
          few : (old.damage ≤ 2 ^ 64 - 1) × (old.shortages ≤ 2 ^ 64 - 1)
          few = let d = counted.damage in let k = counted.shortages in (omega (arith, d), omega (arith, k))

      may : MayAnswer m places old stopped (Some refusal)
      may = fault_may m places old stopped from.before is.fault refusal up from.up_then
          ((from.so 0).goes.time.never_falls, (from.so 0).goes.time.failed_writes) is.is (subst (λ (g : Geometry). NamesLimit g.limit refusal)
          (left_geometry m from.before new.store is.fault from.stops.left ∙ (from.so 0).goes.geometry) is.names)
          from.stops.told is.counts

-- ---- the law

pub collections_are_nobodys : RowsAreOne packed_coding → StandsOneWay packed_form → TipsStayOn → ListsStay
    → WritesKeepPlain → CoveredMayGo → ErasedMayGo → OpeningsBegin → TablesAreWalked → (D P : Type 0) (m : Meaning D)
    → RowsLastStill D FireLinks m packed_form → ReadsLast D FireLinks m packed_form → HoldsOne D m
    → PageWritesFail D FireLinks m packed_form → CollectionsAreNobodys D P m
collections_are_nobodys one one_way on lists keep_plain covered erased begins walked D P m last reads_last holds failing
    places old new t table rec (Ok gone) core counted given is = goes one one_way on lists keep_plain covered erased begins
    walked m last reads_last holds failing places old core counted t table rec given is.continues.0 new gone is
collections_are_nobodys one one_way on lists keep_plain covered erased begins walked D P m last reads_last holds failing
    places old new t table rec (Err refusal) core counted given (inl (refuses, same)) =
    let none : AddsNone {T = Bool} m places old old t.0 (Err refusal) None =
    refused_none m places old t.0 refusal None refuses in
    subst (λ (c : Core D). IsNobodysEvent {T = Bool} m places old c (Err refusal)) (sym same) (record {
      outside = refused_outer old.store.offline (said old.list t.0) refusal
          (core.active.is_active t.0 (given_works old.works t.0 table.name table given)) refuses;
      reads = none.reads;
      crash = none.crash;
      sessions = none.sessions;
    })
collections_are_nobodys one one_way on lists keep_plain covered erased begins walked D P m last reads_last holds failing
    places old new t table rec (Err refusal) core counted given (inr is) = fails one one_way on lists keep_plain covered
    erased begins walked m last reads_last holds failing places old core counted t table rec given is.continues.0 new
    refusal is
