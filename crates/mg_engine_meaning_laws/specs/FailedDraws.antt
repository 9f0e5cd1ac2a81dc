-- A begin whose number was not drawn: pages were read, or written out for want of room until a page write failed.
use Rattle.std.proofs.Common.{◌≡◌, ◌⊎◌, inl, inr, ◌≤◌, ◌<◌, ◌+◌, ◌-◌, ◌^◌, ℕ, true, false, None, Some, Err, refl, sym, ap, ◌∙◌, subst, arith}
use Rattle.std.proofs.Math.Nat.{min-eq_left, min-eq_right}
use Rattle.std.proofs.lemmas.Bool.{cases_lt}
use Rattle.mg_base.specs.Disk.{Meaning, Rose}
use Rattle.mg_base.specs.declared.geometry.Geometry.{Geometry}
use Rattle.mg_base.specs.declared.numbers.TxNo.{TxNo}
use Rattle.mg_model.specs.declared.answer.Answer.TheVariants.{No}
use Rattle.mg_model.specs.declared.event.Event.TheVariants.{Begin}
use Rattle.mg_model.specs.declared.event.Mode.{Mode}
use Rattle.mg_model.specs.declared.opening.Opening.{Opening}
use Rattle.mg_model.specs.declared.refusal.Refusal.{Refusal}
use Rattle.mg_model.specs.declared.refusal.Refusal.TheVariants as refusals
use Rattle.mg_model.specs.History.{Entries}
use Rattle.mg_model.specs.Laws.{OpeningsBegin}
use Rattle.mg_model.specs.Legal.{is_outer}
use Rattle.mg_base.specs.declared.damage.Field.TheVariants.{Presence}
use Rattle.mg_engine_step_laws.specs.commits.PageWrites.{PageWritesFail}
use Rattle.mg_engine_step_laws.specs.commits.Idle.{IdleGoesOn}
use Rattle.mg_engine_step_laws.specs.writes.Batches.{ReadsLast}
use Rattle.mg_image.specs.Form.{packed_form}
use Rattle.mg_lasting_laws.specs.Changing.{QuietHolds}
use Rattle.mg_pool.specs.Dirty.{DirtyPages, is_marked}
use Rattle.mg_pool.specs.Fault.{TellsFault}
use Rattle.mg_pool.specs.Refusal.{FailsWrites, LeavesRefused}
use Rattle.mg_pool.specs.declared.fault.PoolFault.{PoolFault}
use Rattle.mg_pool.specs.declared.fault.PoolFault.TheVariants as faults
use Rattle.mg_pool.specs.declared.pool.Pool.{Pool}
use Rattle.mg_records.specs.Crashing.{LeavesQuietly}
use Rattle.mg_records.specs.Keeping.{WalksStay}
use Rattle.mg_space.specs.View.{KeepsStore, pool_answer}
use Rattle.mg_space.specs.declared.fault.SpaceFault.{SpaceFault}
use Rattle.mg_space.specs.declared.fault.SpaceFault.TheVariants as space
use Rattle.mg_space.specs.declared.links.FireLinks.{FireLinks}
use Rattle.mg_engine_step_laws.specs.standing.Following.{StandsOn}
use Rattle.mg_txlist.specs.Drawing.{FailsDraw, SaysSame, not_changed, only_read}
use Rattle.mg_txlist.specs.declared.list.TxList.{TxList}
use Rattle.mg_core.specs.declared.parts.Core.{Core}
use Rattle.mg_core.specs.Beginning.{FailsBegin}
use Rattle.mg_core.specs.RefusingLaws.{full_is}
use Rattle.mg_core.specs.Refusing.{CountsFault, IsRefusal, NamesLimit, OneMore}
use Rattle.mg_engine_meaning_laws.specs.FrameLaws.{commits_of, keeps_of, sessions_of, tables_of, works_same}
use Rattle.mg_engine_meaning_laws.specs.Frames.{GivesEvent, MayAnswer, StoreGoesOn}
use Rattle.mg_engine_meaning_laws.specs.Meaning.{Places, means}
use Rattle.mg_engine_meaning_laws.specs.Standings.{StandsFor, sessions_in}
use Rattle.mg_engine_meaning_laws.specs.ReadLaws.{reads_go, reads_quiet, reads_stand, reads_walks}
use Rattle.mg_engine_meaning_laws.specs.StepLaws.{fail_quiet, fail_stands, fail_walks, fails_goes, time_then, unmarked_run}
use Rattle.mg_engine_meaning_laws.specs.Counts.{HasCounts}
use Rattle.mg_engine_meaning_laws.specs.CallsRefusedLaws.{list_stands, list_walks, refused_gives}
use Rattle.mg_engine_meaning_laws.specs.StillLaws.{quiet_then}

-- ---- what a drawing left

-- Pages were read, and then a page write failed.
record FailsReady {D L : Type 0} (m : Meaning D) (old new : Pool D L) (fault : SpaceFault) : Type 0 where
  ready : Pool D L
  count : ℕ
  keeps : KeepsStore m old ready
  fails : FailsWrites m ready new (faults.DiskWrite count)
  is : fault ≡ space.Pool (faults.DiskWrite count)

change_left : {D L : Type 0} (m : Meaning D) (old ready new : Pool D L) (fault : PoolFault)
    → KeepsStore m old ready → LeavesRefused {T = Unit {0}} m ready new (Err fault)
    → KeepsStore m old new ⊎ FailsReady m old new (space.Pool fault)
change_left m old ready new (faults.DiskRead n) keeps left = absurd left
change_left m old ready new (faults.DiskWrite n) keeps left =
    inr (record { ready = ready; count = n; keeps = keeps; fails = left; is = refl })
change_left m old ready new (faults.Offline n) keeps left = inl (subst (KeepsStore m old) (sym left) keeps)
change_left m old ready new (faults.Absent n) keeps left = absurd left
change_left m old ready new faults.Memory keeps left = inl (subst (KeepsStore m old) (sym left) keeps)

drawing_left : {D L : Type 0} (m : Meaning D) (old new : Pool D L) (fault : SpaceFault)
    → FailsDraw m old new fault → KeepsStore m old new ⊎ FailsReady m old new fault
drawing_left m old new fault (only_read f own keeps) = inl keeps
drawing_left m old new fault (not_changed ready f keeps left) = change_left m old ready new f keeps left

-- ---- counts

-- a count that rose has not fallen
one_rose : (old new : ℕ) → old < 2 ^ 64 → OneMore old new → (old ≤ new) × Rose old new
one_rose old new below more = at (cases_lt (old + 1) (2 ^ 64))
  where
    at : (old + 1 < 2 ^ 64) ⊎ (2 ^ 64 ≤ old + 1) → (old ≤ new) × Rose old new
    at (inl less) = let is : new ≡ old + 1 = more ∙ min-eq_left (omega (arith, less)) in (omega (arith, is), inl (omega (arith, is)))
    at (inr past) = let is : new ≡ 2 ^ 64 - 1 = more ∙ min-eq_right (omega (arith, past)) in
        (omega (arith, is, below), inr (omega (arith, is)))

-- ---- the engine afterwards

module _ {D P : Type 0} (m : Meaning D) (places : Places P) (idle_goes : IdleGoesOn D FireLinks m packed_form)
    (on : StandsOn packed_form) (quiet : QuietHolds packed_form) (begin : OpeningsBegin)
    (last : ReadsLast D FireLinks m packed_form) (failing : PageWritesFail D FireLinks m packed_form) (old : Core D)
    (session : ℕ) (mode : Mode) (store : Pool D FireLinks) (list : TxList) (damage shortages : ℕ)
    (online : old.store.offline ≡ None) (same : SaysSame old.list list) where
  abbrev mid : Core D
  mid = record old { store = store; damage = damage; shortages = shortages }

  abbrev new : Core D
  new = record old { store = store; list = list; damage = damage; shortages = shortages }

  abbrev Given : Refusal → Type 0
  Given refusal = GivesEvent m places old
      (record old { store = store; list = list; damage = damage; shortages = shortages }) (Begin session mode)
      (No refusal) (Some refusal) None None None None

  -- a refusal from outside may be answered so
  abbrev MayBe : Refusal → Type 0
  MayBe refusal = (is_outer (No refusal) ≡ true) × (old.damage ≤ damage) × (old.shortages ≤ shortages)
      × MayAnswer m places old
      (record old { store = store; list = list; damage = damage; shortages = shortages }) (Some refusal)

  given_by : (refusal : Refusal) → MayBe refusal → StoreGoesOn m old.store store
      → ((o : Opening) (h : Entries) → StandsFor m old o h
      → StandsFor m (record old { store = store; damage = damage; shortages = shortages }) o h)
      → WalksStay (means m places) old (record old { store = store; damage = damage; shortages = shortages }) None
      → LeavesQuietly (means m places) old
      (record old { store = store; damage = damage; shortages = shortages })
      → ((page who : ℕ) → is_marked old.store.dirty page who ≡ false → is_marked store.dirty page who ≡ false)
      → Given refusal
  given_by refusal (outer, damaged, short, may) goes stands walks crash unmarked =
      refused_gives m places idle_goes on quiet old
      (record old { store = store; list = list; damage = damage; shortages = shortages }) session mode refusal
      (λ o h stood. inr outer) (record {
        stays = λ o h stood. list_stands m places
            (record old { store = store; damage = damage; shortages = shortages }) list same o h (stands o h stood);
        keeps = keeps_of m places old
            (record old { store = store; list = list; damage = damage; shortages = shortages }) (Some refusal) goes
            damaged short may;
        tables = tables_of m places old
            (record old { store = store; list = list; damage = damage; shortages = shortages }) None
            (λ u name not_. refl);
        walks_stay = λ u table after rows not_ comes. list_walks m places
            (record old { store = store; damage = damage; shortages = shortages }) list same u table after rows
            (walks u table after rows not_ comes);
        commits = commits_of m places old
            (record old { store = store; list = list; damage = damage; shortages = shortages }) None
            (λ u not_. refl) (λ u not_. refl)
            (λ u page not_ was none. unmarked page (sessions_in old.works u) none);
      }) (λ o h stood told. record { each = (crash o h stood told).each; before = (crash o h stood told).before })
      (sessions_of m places old
      (record old { store = store; list = list; damage = damage; shortages = shortages }) 0
      (works_same old.works 0))

  -- pages were read
  read_only : (refusal : Refusal) → MayBe refusal → KeepsStore m old.store store → Given refusal
  read_only refusal may keeps = given_by refusal may (reads_go m old.store store keeps)
      (reads_stand m places begin last old store keeps damage shortages)
      (reads_walks m places begin last old store keeps damage shortages None)
      (reads_quiet m places begin last old store keeps damage shortages)
      (λ page who none. ap (λ (d : DirtyPages). is_marked d page who) keeps.dirty ∙ none)

  -- and then a page write failed
  module _ (count : ℕ) (offline : store.offline ≡ Some count) (ready : Pool D FireLinks)
      (keeps : KeepsStore m old.store ready) (fails : FailsWrites m ready store (faults.DiskWrite count)) where
    abbrev reading : Core D
    reading = record old { store = ready; damage = damage; shortages = shortages }

    reads : StoreGoesOn m old.store ready
    reads = reads_go m old.store ready keeps

    writes : StoreGoesOn m ready store
    writes = fails_goes m ready store (faults.DiskWrite count) fails

    reads_on : (o : Opening) (h : Entries) → StandsFor m old o h
        → StandsFor m (record old { store = ready; damage = damage; shortages = shortages }) o h
    reads_on = reads_stand m places begin last old ready keeps damage shortages

    ready_online : ready.offline ≡ None
    ready_online = keeps.offline ∙ online

    unmarked : (page who : ℕ) → is_marked old.store.dirty page who ≡ false → is_marked store.dirty page who ≡ false
    unmarked page who none = ap (λ (p : Pool D FireLinks). is_marked p.dirty page who) fails.fails.same
        ∙ unmarked_run m ready fails.before page who fails.written
        (ap (λ (d : DirtyPages). is_marked d page who) keeps.dirty ∙ none)

    write_failed : (refusal : Refusal) → MayBe refusal → Given refusal
    write_failed refusal may = given_by refusal may (record {
      time = time_then m old.store.disk ready.disk store.disk reads.time writes.time;
      geometry = writes.geometry ∙ reads.geometry;
      size = writes.size ∙ reads.size;
    }) (λ o h stood. fail_stands m places failing
        (record old { store = ready; damage = damage; shortages = shortages }) store count ready_online offline fails o h
        (reads_on o h stood))
        (λ u table after rows not_ comes. fail_walks m places failing
        (record old { store = ready; damage = damage; shortages = shortages }) store count ready_online offline fails
        None u table after rows not_
        (reads_walks m places begin last old ready keeps damage shortages None u table after rows not_ comes))
        (quiet_then m places old (record old { store = ready; damage = damage; shortages = shortages })
        (record old { store = store; damage = damage; shortages = shortages }) reads.time.later reads.time.tells
        writes.size reads_on (reads_quiet m places begin last old ready keeps damage shortages)
        (fail_quiet m places failing (record old { store = ready; damage = damage; shortages = shortages }) store count
        ready_online offline fails)) unmarked

  -- ---- by the fault

  -- no page write failed
  kept_by : (refusal : Refusal) (fault : SpaceFault) → FailsDraw m old.store store fault
      → ((n : ℕ) → fault ≡ space.Pool (faults.DiskWrite n) → ⊥) → MayBe refusal → Given refusal
  kept_by refusal fault left other may = at (drawing_left m old.store store fault left)
    where
      at : KeepsStore m old.store store ⊎ FailsReady m old.store store fault → Given refusal
      at (inl keeps) = read_only refusal may keeps
      at (inr failed) = absurd (other failed.count failed.is)

  -- one did
  written_by : (refusal : Refusal) (n : ℕ)
      → FailsDraw m old.store store (space.Pool (faults.DiskWrite n)) → store.offline ≡ Some n
      → MayBe refusal → Given refusal
  written_by refusal n left offline may = at (drawing_left m old.store store (space.Pool (faults.DiskWrite n)) left)
    where
      at : KeepsStore m old.store store ⊎ FailsReady m old.store store (space.Pool (faults.DiskWrite n))
          → Given refusal
      at (inl keeps) = let both : None ≡ Some n = sym online ∙ (sym keeps.offline ∙ offline) in absurd cc
      at (inr failed) =
          let one : space.Pool (faults.DiskWrite n) ≡ space.Pool (faults.DiskWrite failed.count) = failed.is in
          let count : failed.count ≡ n = cc in
          write_failed n offline failed.ready failed.keeps
          (subst (λ (k : ℕ). FailsWrites m failed.ready store (faults.DiskWrite k)) count failed.fails) refusal may

  -- the page limit stays
  same_geometry : (fault : SpaceFault) → FailsDraw m old.store store fault → store.geometry ≡ old.store.geometry
  same_geometry fault left = at (drawing_left m old.store store fault left)
    where
      at : KeepsStore m old.store store ⊎ FailsReady m old.store store fault → store.geometry ≡ old.store.geometry
      at (inl keeps) = keeps.geometry
      at (inr failed) = (fails_goes m failed.ready store (faults.DiskWrite failed.count) failed.fails).geometry
          ∙ failed.keeps.geometry

  pub fault_gives : HasCounts old → (fault : SpaceFault) (refusal : Refusal) → IsRefusal fault refusal
      → NamesLimit store.geometry.limit refusal → FailsDraw m old.store store fault
      → TellsFault m old.store store (pool_answer {T = TxNo} (Err fault))
      → CountsFault fault old.damage damage old.shortages shortages → Given refusal
  fault_gives counts (space.Full most) refusal is names left told counted = subst Given (sym (full_is refusal is).1)
      (let rose = one_rose old.shortages shortages counts.shortages counted.1 in
      kept_by (refusals.DatabaseFull (full_is refusal is).0) (space.Full most) left (λ n wrong. absurd cc) (
        refl,
        (let same_ = counted.0 in omega (arith, same_)),
        rose.0,
        record { cause = (rose.1, limit_named); offline = rw online tt; down = told.1 ∙ sym online },
      ))
    where
      limit_named : (full_is refusal is).0 ≡ old.store.geometry.limit
      limit_named = subst (NamesLimit old.store.geometry.limit) (full_is refusal is).1 (subst (λ (g : Geometry). NamesLimit g.limit refusal)
          (same_geometry (space.Full most) left) names)
  fault_gives counts (space.Damaged d) refusal is names left told counted = subst Given (sym is)
      (let rose = one_rose old.damage damage counts.damage counted.0 in
      kept_by (refusals.Damaged d.page d.field d.found d.wanted) (space.Damaged d) left (λ n wrong. absurd cc) (
        refl,
        rose.0,
        (let same_ = counted.1 in omega (arith, same_)),
        record { cause = rose.1; offline = rw online tt; down = told.1 ∙ sym online },
      ))
  fault_gives counts (space.Pool (faults.Absent pages)) refusal is names left told counted = subst Given (sym is)
      (let rose = one_rose old.damage damage counts.damage counted.0 in
      kept_by (refusals.Damaged (record { 0 = 0 }) Presence pages pages) (space.Pool (faults.Absent pages)) left
      (λ n wrong. absurd cc) (
        refl,
        rose.0,
        (let same_ = counted.1 in omega (arith, same_)),
        record { cause = rose.1; offline = rw online tt; down = told.1 ∙ sym online },
      ))
  fault_gives counts (space.Pool (faults.DiskRead n)) refusal is names left told counted = subst Given (sym is)
      (kept_by (refusals.DiskRead n) (space.Pool (faults.DiskRead n)) left (λ k wrong. absurd cc) (
        refl,
        (let same_ = counted.0 in omega (arith, same_)),
        (let same_ = counted.1 in omega (arith, same_)),
        record { cause = told.2.2; offline = rw online tt; down = told.1 ∙ sym online },
      ))
  fault_gives counts (space.Pool (faults.DiskWrite n)) refusal is names left told counted = subst Given (sym is)
      (written_by (refusals.DiskWrite n) n left told.1 (
        refl,
        (let same_ = counted.0 in omega (arith, same_)),
        (let same_ = counted.1 in omega (arith, same_)),
        record { cause = (told.2.2, told.3); offline = rw online tt; down = told.1 },
      ))
  fault_gives counts (space.Pool (faults.Offline n)) refusal is names left told counted =
      let both : None ≡ Some n = sym online ∙ told.0 in absurd cc
  fault_gives counts (space.Pool faults.Memory) refusal is names left told counted = subst Given (sym is)
      (kept_by refusals.Memory (space.Pool faults.Memory) left (λ k wrong. absurd cc) (
        refl,
        (let same_ = counted.0 in omega (arith, same_)),
        (let same_ = counted.1 in omega (arith, same_)),
        record { cause = tt; offline = rw online tt; down = told.1 ∙ sym online },
      ))

-- a begin that failed so
pub failed_gives : {D P : Type 0} (m : Meaning D) (places : Places P) → IdleGoesOn D FireLinks m packed_form
    → StandsOn packed_form → QuietHolds packed_form → OpeningsBegin → ReadsLast D FireLinks m packed_form
    → PageWritesFail D FireLinks m packed_form → (old new : Core D) (session : ℕ) (mode : Mode) (refusal : Refusal)
    → HasCounts old → FailsBegin m old new refusal
    → GivesEvent m places old new (Begin session mode) (No refusal) (Some refusal) None None None None
failed_gives {D} m places idle_goes on quiet begin last failing old new session mode refusal counts fails =
    subst (λ (c : Core D). GivesEvent m places old c (Begin session mode) (No refusal) (Some refusal) None None None
    None) (sym fails.same) (fault_gives m places idle_goes on quiet begin last failing old session mode new.store
    new.list new.damage new.shortages fails.online fails.says counts fails.fault refusal fails.is fails.names
    fails.left fails.told fails.counts)
