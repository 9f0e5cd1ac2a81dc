-- The store of an engine goes on while the bits of a commit are changed, written and settled, and where that fails:
-- time passes, pages keep their size, and no page comes to be marked for a commit.
use Rattle.std.proofs.Common.{◌≡◌, ◌⊎◌, inl, inr, ℕ, false, List, ◌∷◌, refl, sym, ap, ◌∙◌, subst, arith}
use Rattle.mg_base.specs.Disk.{Meaning}
use Rattle.mg_base.specs.Image.{Image}
use Rattle.mg_base.specs.Moments.{LeavesOnly as DiskLeavesOnly}
use Rattle.mg_base.specs.declared.numbers.PageNo.{PageNo}
use Rattle.mg_image.specs.Form.{packed_form}
use Rattle.mg_lasting_laws.specs.Crashes.{HoldsFrom, asked}
use Rattle.mg_model.specs.declared.opening.Opening.{Opening}
use Rattle.mg_model.specs.History.{Entries, Entry}
use Rattle.mg_model.specs.Legal.{durable_count}
use Rattle.mg_pool.specs.Dirty.{DirtyPages, is_marked}
use Rattle.mg_pool.specs.Pool.{KeepsContent}
use Rattle.mg_pool.specs.Refusal.{FailsWrites}
use Rattle.mg_pool.specs.Run.{HasWritten, TimeGoesOn}
use Rattle.mg_pool.specs.declared.fault.PoolFault.TheVariants as faults
use Rattle.mg_pool.specs.declared.pool.Pool.{Pool}
use Rattle.mg_records.specs.Crashing.{LeavesOnly}
use Rattle.mg_txlist.specs.Ending.{ChangesBits, FailsToSettle, SettlesPage, not_changed, not_settled, not_written}
use Rattle.mg_core.specs.declared.parts.Core.{Core}
use Rattle.mg_engine_meaning_laws.specs.Frames.{StoreGoesOn}
use Rattle.mg_engine_meaning_laws.specs.Meaning.{Places, means}
use Rattle.mg_engine_meaning_laws.specs.StepLaws.{fails_goes, run_goes, time_then, unmarked_run}

-- A store went on, and what was not marked in it is not.
pub record GoesUnmarked {D L : Type 0} (m : Meaning D) (old new : Pool D L) : Type 0 where
  pub goes : StoreGoesOn m old new
  pub unmarked : (page who : ℕ) → is_marked old.dirty page who ≡ false → is_marked new.dirty page who ≡ false

module _ {D L : Type 0} (m : Meaning D) where
  goes_then : (a b c : Pool D L) → GoesUnmarked m a b → GoesUnmarked m b c → GoesUnmarked m a c
  goes_then a b c first next = record {
    goes = record {
      time = time_then m a.disk b.disk c.disk first.goes.time next.goes.time;
      geometry = next.goes.geometry ∙ first.goes.geometry;
      size = next.goes.size ∙ first.goes.size;
    };
    unmarked = λ page who none. next.unmarked page who (first.unmarked page who none);
  }

  -- pages are written
  writes_go : (old new : Pool D L) → HasWritten m old new → GoesUnmarked m old new
  writes_go old new run = record {
    goes = run_goes m old new run;
    unmarked = λ page who none. unmarked_run m old new page who run none;
  }

  -- the bits are changed
  changes_go : (old new : Pool D L) (page : PageNo) (bytes : List ℕ) → ChangesBits m old new page bytes
      → GoesUnmarked m old new
  changes_go old new page bytes changes = goes_then old changes.changes.ready new
      (writes_go old changes.changes.ready changes.changes.written) (record {
        goes = record {
          time = subst (λ (disk : D). TimeGoesOn m changes.changes.ready.disk disk)
              (sym (changes.changes.enters.disk ∙ changes.changes.puts.disk)) (record {
                tells = refl;
                most_writes = refl;
                never_falls = omega arith;
                failed_writes = omega arith;
                later = λ told. omega arith;
                keeps = λ told t c early left. left;
              });
          geometry = changes.changes.enters.geometry ∙ changes.changes.puts.geometry;
          size = ap (λ (d : DirtyPages). d.size) changes.changes.enters.dirty ∙ changes.changes.puts.size;
        };
        unmarked = λ n who none. ap (λ (d : DirtyPages). is_marked d n who) changes.changes.enters.dirty
            ∙ (changes.changes.puts.marks n who ∙ none);
      })

  -- the disk is settled, or is not
  settling_goes : (old new : Pool D L) → KeepsContent m old.disk new.disk
      → new ≡ record old { disk = new.disk; faults = new.faults; offline = new.offline }
      → GoesUnmarked m old new
  settling_goes old new keeps same = record {
    goes = record {
      time = record {
        tells = keeps.tells;
        most_writes = keeps.most_writes;
        never_falls = keeps.never_falls;
        failed_writes = keeps.failed_writes;
        later = λ told. (keeps.time told).later;
        keeps = λ told t c early left. (keeps.time told).keeps t c early left;
      };
      geometry = ap (λ (p : Pool D L). p.geometry) same;
      size = ap (λ (p : Pool D L). p.dirty.size) same;
    };
    unmarked = λ page who none. ap (λ (p : Pool D L). is_marked p.dirty page who) same ∙ none;
  }

  -- page writes fail
  failing_goes : (old new : Pool D L) (n : ℕ) → FailsWrites m old new (faults.DiskWrite n)
      → GoesUnmarked m old new
  failing_goes old new n fails = record {
    goes = fails_goes m old new (faults.DiskWrite n) fails;
    unmarked = λ page who none. ap (λ (p : Pool D L). is_marked p.dirty page who) fails.fails.same
        ∙ unmarked_run m old fails.before page who fails.written none;
  }

  -- ---- the whole

  pub settled_goes : (old new : Pool D L) (page : PageNo) (bytes : List ℕ) → SettlesPage m old new page bytes
      → GoesUnmarked m old new
  settled_goes old new page bytes settles =
      goes_then old settles.changed new (changes_go old settles.changed page bytes settles.changes)
      (goes_then settles.changed settles.written new
      (writes_go settles.changed settles.written settles.writes)
      (settling_goes settles.written new settles.settles settles.same))

  pub unsettled_goes : (old new : Pool D L) (page : PageNo) (bytes : List ℕ) (n : ℕ)
      → FailsToSettle m old new page bytes (faults.DiskWrite n) → GoesUnmarked m old new
  unsettled_goes old new page bytes n (not_changed refused) = failing_goes old new n refused
  unsettled_goes old new page bytes n (not_written changed changes refused) =
      goes_then old changed new (changes_go old changed page bytes changes) (failing_goes changed new n refused)
  unsettled_goes old new page bytes n (not_settled changed written changes run out keeps same) =
      goes_then old changed new (changes_go old changed page bytes changes)
      (goes_then changed written new (writes_go changed written run) (settling_goes written new keeps same))

-- ---- crashes

-- what a call leaves of the history with an entry more, in the terms of a keeper
pub history_left : {D P : Type 0} (m : Meaning D) (places : Places P) (old new : Core D) (o : Opening)
    (h : Entries) (e : Entry) → new.store.dirty.size ≡ old.store.dirty.size
    → DiskLeavesOnly m old.store.disk new.store.disk
    (HoldsFrom packed_form old.store.dirty.size o (asked (e ∷ h)) (durable_count h))
    → LeavesOnly (means m places) old new
    (λ (c : Image). HoldsFrom packed_form new.store.dirty.size o (asked (e ∷ h)) (durable_count h) c)
history_left m places old new o h e size leaves = record {
  each = λ c left. turn c (leaves.each c left);
  before = λ t c early left. other t c (leaves.before t c early left);
}
  where
    turn : (c : Image) → HoldsFrom packed_form old.store.dirty.size o (asked (e ∷ h)) (durable_count h) c
        → HoldsFrom packed_form new.store.dirty.size o (asked (e ∷ h)) (durable_count h) c
    turn c holds = subst (λ (n : ℕ). HoldsFrom packed_form n o (asked (e ∷ h)) (durable_count h) c) (sym size) holds

    other : (t : ℕ) (c : Image) → m.left old.store.disk t c
        ⊎ HoldsFrom packed_form old.store.dirty.size o (asked (e ∷ h)) (durable_count h) c
        → m.left old.store.disk t c
        ⊎ HoldsFrom packed_form new.store.dirty.size o (asked (e ∷ h)) (durable_count h) c
    other t c (inl was) = inl was
    other t c (inr holds) = inr (turn c holds)
