-- Stages of a call: pages are read, a batch is changed that adds nothing, a page write fails; and one after another.
use Rattle.std.proofs.Common.{◌≡◌, ◌⊎◌, inl, inr, ◌≤◌, ℕ, Option, None, Some, Err, refl, sym, ap, ◌∙◌, subst}
use Rattle.mg_base.specs.Disk.{Meaning}
use Rattle.mg_base.specs.Image.{Image}
use Rattle.mg_engine_meaning_laws.specs.StillLaws.{quiet_then}
use Rattle.mg_engine_step_laws.specs.writes.Batches.{ReadsLast}
use Rattle.mg_engine_step_laws.specs.commits.PageWrites.{PageWritesFail}
use Rattle.mg_image.specs.Form.{packed_form}
use Rattle.mg_model.specs.declared.opening.Opening.{Opening}
use Rattle.mg_model.specs.declared.refusal.Refusal.{Refusal}
use Rattle.mg_model.specs.History.{Entries}
use Rattle.mg_model.specs.Laws.{OpeningsBegin}
use Rattle.mg_pool.specs.Batch.{Changed}
use Rattle.mg_pool.specs.Dirty.{DirtyPages, is_marked}
use Rattle.mg_pool.specs.Fault.{TellsFault}
use Rattle.mg_pool.specs.Pool.{shown}
use Rattle.mg_pool.specs.Refusal.{FailsWrites, LeavesRefused}
use Rattle.mg_pool.specs.declared.fault.PoolFault.{PoolFault}
use Rattle.mg_pool.specs.declared.fault.PoolFault.TheVariants as pool_faults
use Rattle.mg_pool.specs.declared.pool.Pool.{Pool}
use Rattle.mg_batches.specs.Batches.{FailsBatch, FailsOwn, not_changed, not_filled}
use Rattle.mg_space.specs.View.{KeepsStore, pool_answer}
use Rattle.mg_space.specs.declared.fault.SpaceFault.{SpaceFault}
use Rattle.mg_space.specs.declared.fault.SpaceFault.TheVariants as faults
use Rattle.mg_space.specs.declared.links.FireLinks.{FireLinks}
use Rattle.mg_core.specs.declared.parts.Core.{Core}
use Rattle.mg_core.specs.RefusingLaws.{full_is}
use Rattle.mg_core.specs.Refusing.{CountsFault, IsRefusal, NamesLimit}
use Rattle.mg_engine_meaning_laws.specs.FrameLaws.{apart_from, quiet_of}
use Rattle.mg_engine_meaning_laws.specs.Frames.{MayAnswer}
use Rattle.mg_engine_meaning_laws.specs.LawfulLaws.{memory_of}
use Rattle.mg_engine_meaning_laws.specs.Meaning.{AreNext, Places, place_at}
use Rattle.mg_engine_meaning_laws.specs.ReadLaws.{reads_go, reads_quiet, reads_stand, reads_walks}
use Rattle.mg_engine_meaning_laws.specs.Standings.{StandsFor, standing_of}
use Rattle.mg_engine_meaning_laws.specs.StepLaws.{as_standing, fail_quiet, fail_stands, fail_walks, fails_goes, time_then, unmarked_run}
use Rattle.mg_engine_change_laws.specs.rows.Laid.{StaysOver, bare_standing}
use Rattle.mg_engine_change_laws.specs.rows.MadeLaws.{StoreOn}
use Rattle.mg_engine_change_laws.specs.rows.StopLaws.{rose_later, rose_one}
use Rattle.mg_engine_change_laws.specs.memory.Stages.{FailsReady, StaysSo, TellsOf}

-- ---- stages

module _ {D P : Type 0} (m : Meaning D) (places : Places P) where
  pub so_then : (old mid new : Core D) (t : ℕ) → StaysSo m places old mid t → StaysSo m places mid new t
      → StaysSo m places old new t
  so_then old mid new t first second = record {
    stands = λ o h stands. second.stands o h (first.stands o h stands);
    quiet = quiet_then m places old mid new first.goes.time.later first.goes.time.tells second.goes.size first.stands
        first.quiet second.quiet;
    goes = record {
      time = time_then m old.store.disk mid.store.disk new.store.disk first.goes.time second.goes.time;
      geometry = second.goes.geometry ∙ first.goes.geometry;
      size = second.goes.size ∙ first.goes.size;
    };
    walks = λ u table after rows not_ comes. second.walks u table after rows not_
        (first.walks u table after rows not_ comes);
    unmarked = λ page who none. second.unmarked page who (first.unmarked page who none);
  }

  -- pages were read
  pub reads_so : OpeningsBegin → ReadsLast D FireLinks m packed_form → (old : Core D) (store : Pool D FireLinks)
      (damage shortages t : ℕ) → KeepsStore m old.store store
      → StaysSo m places old (record old { store = store; damage = damage; shortages = shortages }) t
  reads_so begin last old store damage shortages t keeps = record {
    stands = reads_stand m places begin last old store keeps damage shortages;
    quiet = reads_quiet m places begin last old store keeps damage shortages;
    goes = reads_go m old.store store keeps;
    walks = reads_walks m places begin last old store keeps damage shortages (Some t);
    unmarked = λ page who none. ap (λ (d : DirtyPages). is_marked d page who) keeps.dirty ∙ none;
  }

  -- a page write failed
  pub fails_so : PageWritesFail D FireLinks m packed_form → (old : Core D) (store : Pool D FireLinks) (count t : ℕ)
      → old.store.offline ≡ None → store.offline ≡ Some count
      → FailsWrites m old.store store (pool_faults.DiskWrite count)
      → StaysSo m places old (record old { store = store }) t
  fails_so failing old store count t online offline fails = record {
    stands = fail_stands m places failing old store count online offline fails;
    quiet = fail_quiet m places failing old store count online offline fails;
    goes = fails_goes m old.store store (pool_faults.DiskWrite count) fails;
    walks = fail_walks m places failing old store count online offline fails (Some t);
    unmarked = λ page who none. ap (λ (p : Pool D FireLinks). is_marked p.dirty page who) fails.fails.same
        ∙ unmarked_run m old.store fails.before page who fails.written none;
  }

  -- a batch was changed that adds nothing
  pub over_so : (old : Core D) (store : Pool D FireLinks) (t : ℕ) → old.store.offline ≡ None
      → StoreOn m old.store store
      → ((o : Opening) (h : Entries) → StandsFor m old o h → StaysOver m old store o h t)
      → StaysSo m places old (record old { store = store }) t
  over_so old store t online on over = record {
    stands = λ o h stands. (over o h stands).stands;
    quiet = quiet_of m places old (record old { store = store }) (λ o h stands told. (over o h stands).leaves)
        on.goes.size;
    goes = on.goes;
    walks = λ u its from rows not_ comes.
        let now : StaysOver m old store comes.opening comes.entries t =
        over comes.opening comes.entries comes.stands in
        let next : AreNext m old (standing_of old comes.stands.numbers comes.stands.tables) u its
        (place_at places from) rows None = subst (λ (off : Option ℕ). AreNext m old
        (standing_of old comes.stands.numbers comes.stands.tables) u its (place_at places from) rows off) online
        comes.next in
        let (k, held, then_) = now.walks next.0 next.1 u (apart_from u t not_)
        ((memory_of m old comes.opening comes.entries comes.stands).state u ∙ comes.active) its (place_at places from)
        rows (as_standing old.store.geometry.size (standing_of old comes.stands.numbers comes.stands.tables)
        (bare_standing old) (shown old.store.dirty next.0) u its (place_at places from) rows refl refl next.2) in
        record {
          opening = comes.opening;
          entries = comes.entries;
          stands = now.stands;
          active = comes.active;
          seen = comes.seen;
          next = subst (λ (off : Option ℕ). AreNext m (record old { store = store })
              (standing_of (record old { store = store }) now.stands.numbers now.stands.tables) u its
              (place_at places from) rows off) (sym on.online) (
                k,
                held,
                as_standing store.geometry.size (bare_standing old)
                    (standing_of (record old { store = store }) now.stands.numbers now.stands.tables)
                    (shown store.dirty k) u its (place_at places from) rows refl refl then_,
              );
        };
    unmarked = on.unmarked;
  }

-- ---- a batch of its own that failed

module _ {D : Type 0} (m : Meaning D) where
  refused_left : (old ready new : Pool D FireLinks) (fault : PoolFault) → KeepsStore m old ready
      → LeavesRefused {T = Unit {0}} m ready new (Err fault)
      → KeepsStore m old new ⊎ FailsReady m old new (faults.Pool fault)
  refused_left old ready new (pool_faults.DiskRead n) keeps left = absurd left
  refused_left old ready new (pool_faults.DiskWrite n) keeps left =
      inr (record { ready = ready; count = n; keeps = keeps; fails = left; is = refl })
  refused_left old ready new (pool_faults.Offline n) keeps left = inl (subst (KeepsStore m old) (sym left) keeps)
  refused_left old ready new (pool_faults.Absent n) keeps left = absurd left
  refused_left old ready new pool_faults.Memory keeps left = inl (subst (KeepsStore m old) (sym left) keeps)

  batch_left : (old ready new : Pool D FireLinks) (batch : Changed) (fault : SpaceFault) → KeepsStore m old ready
      → FailsBatch m ready new batch fault → KeepsStore m old new ⊎ FailsReady m old new fault
  batch_left old ready new batch (faults.Full limit) keeps fails = absurd fails
  batch_left old ready new batch (faults.Damaged it) keeps fails =
      inl (subst (KeepsStore m old) (sym fails.same) keeps)
  batch_left old ready new batch (faults.Pool fault) keeps fails =
      refused_left old ready new fault keeps fails.left

  -- pages were read, or a page write failed
  pub own_left : (before after : Pool D FireLinks) (fills : Image → Changed → Type 0)
      (refuses : Image → SpaceFault → Type 0) (fault : SpaceFault) → FailsOwn m before after fills refuses fault
      → KeepsStore m before after ⊎ FailsReady m before after fault
  own_left before after fills refuses fault (not_filled keeps reads told why) = inl keeps
  own_left before after fills refuses fault (not_changed batch ready keeps online filled fails) =
      batch_left before ready after batch fault keeps fails

  pub told_of : (before after : Pool D FireLinks) (fault : SpaceFault)
      → TellsFault m before after (pool_answer {T = Unit {0}} (Err fault)) → TellsOf m before after fault
  told_of before after (faults.Full limit) told = told.1
  told_of before after (faults.Damaged it) told = told.1
  told_of before after (faults.Pool (pool_faults.Absent pages)) told = told.1
  told_of before after (faults.Pool (pool_faults.DiskRead n)) told = (told.1, told.2.2)
  told_of before after (faults.Pool (pool_faults.DiskWrite n)) told = (told.1, told.2.2, told.3)
  told_of before after (faults.Pool (pool_faults.Offline n)) told = told.0
  told_of before after (faults.Pool pool_faults.Memory) told = told.1

  -- told from an earlier store on, where pages were only read in between
  pub told_from : (before ready after : Pool D FireLinks) (fault : SpaceFault) → KeepsStore m before ready
      → TellsOf m ready after fault → TellsOf m before after fault
  told_from before ready after (faults.Full limit) keeps told = told
  told_from before ready after (faults.Damaged it) keeps told = told
  told_from before ready after (faults.Pool (pool_faults.Absent pages)) keeps told = told
  told_from before ready after (faults.Pool (pool_faults.DiskRead n)) keeps told = (
    told.0,
    rose_later
        (m.faults before.disk) (m.faults ready.disk) (m.faults after.disk) keeps.disk.never_falls told.1,
  )
  told_from before ready after (faults.Pool (pool_faults.DiskWrite n)) keeps told = (
    told.0,
    rose_later
        (m.faults before.disk) (m.faults ready.disk) (m.faults after.disk) keeps.disk.never_falls told.1,
    rose_later
        (m.failed_writes before.disk) (m.failed_writes ready.disk) (m.failed_writes after.disk)
        keeps.disk.failed_writes told.2,
  )
  told_from before ready after (faults.Pool (pool_faults.Offline n)) keeps told = sym keeps.offline ∙ told
  told_from before ready after (faults.Pool pool_faults.Memory) keeps told = told

  batch_tells : (before ready after : Pool D FireLinks) (batch : Changed) (fault : SpaceFault)
      → KeepsStore m before ready → ready.offline ≡ None → FailsBatch m ready after batch fault
      → TellsOf m before after fault
  batch_tells before ready after batch (faults.Full limit) keeps up fails = absurd fails
  batch_tells before ready after batch (faults.Damaged it) keeps up fails =
      ap (λ (p : Pool D FireLinks). p.offline) fails.same ∙ up
  batch_tells before ready after batch (faults.Pool fault) keeps up fails =
      told_from before ready after (faults.Pool fault) keeps (told_of ready after (faults.Pool fault) fails.told)

  pub own_tells : (before after : Pool D FireLinks) (fills : Image → Changed → Type 0)
      (refuses : Image → SpaceFault → Type 0) (fault : SpaceFault) → FailsOwn m before after fills refuses fault
      → TellsOf m before after fault
  own_tells before after fills refuses fault (not_filled keeps reads told why) = told_of before after fault told
  own_tells before after fills refuses fault (not_changed batch ready keeps online filled fails) =
      batch_tells before ready after batch fault keeps online.1 fails

-- the page limit stays
pub left_geometry : {D : Type 0} (m : Meaning D) (before after : Pool D FireLinks) (fault : SpaceFault)
    → KeepsStore m before after ⊎ FailsReady m before after fault → after.geometry ≡ before.geometry
left_geometry m before after fault (inl keeps) = keeps.geometry
left_geometry m before after fault (inr fails) =
    (fails_goes m fails.ready after (pool_faults.DiskWrite fails.count) fails.fails).geometry ∙ fails.keeps.geometry

-- ---- the refusal has its cause

pub fault_may : {D P : Type 0} (m : Meaning D) (places : Places P) (old new : Core D) (before : Pool D FireLinks)
    (fault : SpaceFault) (refusal : Refusal) → old.store.offline ≡ None → before.offline ≡ None
    → (m.faults old.store.disk ≤ m.faults before.disk) × (m.failed_writes old.store.disk ≤ m.failed_writes before.disk)
    → IsRefusal fault refusal
    → NamesLimit old.store.geometry.limit refusal → TellsOf m before new.store fault
    → CountsFault fault old.damage new.damage old.shortages new.shortages
    → MayAnswer m places old new (Some refusal)
fault_may m places old new before (faults.Full most) refusal online up rises is names told counts =
    subst (λ (r : Refusal). MayAnswer m places old new (Some r)) (sym (full_is refusal is).1) (record {
      cause = (
        rose_one old.shortages new.shortages counts.1,
        subst (NamesLimit old.store.geometry.limit) (full_is refusal is).1 names,
      );
      offline = rw online tt;
      down = told ∙ sym online;
    })
fault_may m places old new before (faults.Damaged it) refusal online up rises is names told counts =
    subst (λ (r : Refusal). MayAnswer m places old new (Some r)) (sym is) (record {
      cause = rose_one old.damage new.damage counts.0;
      offline = rw online tt;
      down = told ∙ sym online;
    })
fault_may m places old new before (faults.Pool (pool_faults.Absent pages)) refusal online up rises is names told counts =
    subst (λ (r : Refusal). MayAnswer m places old new (Some r)) (sym is) (record {
      cause = rose_one old.damage new.damage counts.0;
      offline = rw online tt;
      down = told ∙ sym online;
    })
fault_may m places old new before (faults.Pool (pool_faults.DiskRead n)) refusal online up rises is names told counts =
    subst (λ (r : Refusal). MayAnswer m places old new (Some r)) (sym is) (record {
      cause = rose_later (m.faults old.store.disk) (m.faults before.disk) (m.faults new.store.disk) rises.0 told.1;
      offline = rw online tt;
      down = told.0 ∙ sym online;
    })
fault_may m places old new before (faults.Pool (pool_faults.DiskWrite n)) refusal online up rises is names told counts =
    subst (λ (r : Refusal). MayAnswer m places old new (Some r)) (sym is) (record {
      cause = (
        rose_later (m.faults old.store.disk) (m.faults before.disk) (m.faults new.store.disk) rises.0 told.1,
        rose_later (m.failed_writes old.store.disk) (m.failed_writes before.disk) (m.failed_writes new.store.disk)
            rises.1 told.2,
      );
      offline = rw online tt;
      down = told.0;
    })
fault_may m places old new before (faults.Pool (pool_faults.Offline n)) refusal online up rises is names told counts =
    let both : None ≡ Some n = sym up ∙ told in absurd cc
fault_may m places old new before (faults.Pool pool_faults.Memory) refusal online up rises is names told counts =
    subst (λ (r : Refusal). MayAnswer m places old new (Some r)) (sym is)
    (record { cause = tt; offline = rw online tt; down = told ∙ sym online })
