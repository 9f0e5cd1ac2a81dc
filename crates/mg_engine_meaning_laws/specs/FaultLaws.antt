-- Refusals of a call that only reads.
use Rattle.std.proofs.Common.{◌≡◌, ◌⊎◌, inl, inr, ◌<◌, ◌≤◌, ◌+◌, ◌-◌, ◌^◌, ℕ, List, Option, None, Some, Err, refl, sym, ◌∙◌, subst, arith}
use Rattle.std.specs.Prelude.{min}
use Rattle.std.proofs.lemmas.Bool.{cases_lt}
use Rattle.std.proofs.Math.Nat.{min-eq_left, min-eq_right}
use Rattle.mg_base.specs.Disk.{Meaning, Rose}
use Rattle.mg_heap.specs.Reading.{ReadsData}
use Rattle.mg_model.specs.declared.opening.Opening.{Opening}
use Rattle.mg_model.specs.declared.refusal.Refusal.{Refusal}
use Rattle.mg_model.specs.declared.refusal.Refusal.TheVariants as refusals
use Rattle.mg_model.specs.History.{Entries}
use Rattle.mg_pool.specs.Fault.{TellsFault}
use Rattle.mg_pool.specs.declared.fault.PoolFault.TheVariants as faults
use Rattle.mg_pool.specs.declared.pool.Pool.{Pool}
use Rattle.mg_records.specs.Adding.{IsRefused}
use Rattle.mg_records.specs.Reading.{TellsTable}
use Rattle.mg_space.specs.View.{KeepsStore, pool_answer}
use Rattle.mg_space.specs.declared.fault.SpaceFault.{SpaceFault}
use Rattle.mg_space.specs.declared.fault.SpaceFault.TheVariants as space
use Rattle.mg_space.specs.declared.links.FireLinks.{FireLinks}
use Rattle.mg_core.specs.declared.parts.Core.{Core}
use Rattle.mg_core.specs.Refusing.{CountsFault, IsRefusal, OneMore}
use Rattle.mg_engine_meaning_laws.specs.Frames.{MayAnswer}
use Rattle.mg_engine_meaning_laws.specs.Meaning.{Places, means}

-- ---- counts

-- a count that was raised by one has risen, and has not fallen
rose_one : (old new : ℕ) → OneMore old new → Rose old new
rose_one old new more = at (cases_lt (old + 1) (2 ^ 64 - 1))
  where
    at : (old + 1 < 2 ^ 64 - 1) ⊎ (2 ^ 64 - 1 ≤ old + 1) → Rose old new
    at (inl low) =
        let is : min (old + 1) (2 ^ 64 - 1) ≡ old + 1 = min-eq_left (omega (arith, low)) in
        inl (omega (arith, more, is))
    at (inr high) =
        let is : min (old + 1) (2 ^ 64 - 1) ≡ 2 ^ 64 - 1 = min-eq_right high in
        inr (omega (arith, more, is))

never_less : (old new : ℕ) → old < 2 ^ 64 → OneMore old new → old ≤ new
never_less old new fits more = at (rose_one old new more)
  where
    at : Rose old new → old ≤ new
    at (inl rose) = omega (arith, rose)
    at (inr full) = omega (arith, full, fits)

-- ---- refusals

-- A fault that is counted is a refusal with its cause, from outside the machine.
pub record IsOuter {D P : Type 0} (m : Meaning D) (places : Places P) (old new : Core D) (refusal : Refusal)
    : Type 0 where
  pub may : MayAnswer m places old new (Some refusal)
  pub refused : (o : Opening) (h : Entries) (t : ℕ) → IsRefused o h t refusal
  pub told : (t : ℕ) (name : List ℕ) → TellsTable (means m places) old t name (Err refusal)
  pub damage : old.damage ≤ new.damage
  pub shortages : old.shortages ≤ new.shortages

module _ {D P : Type 0} (m : Meaning D) (places : Places P) (old : Core D) (store : Pool D FireLinks)
    (damage shortages : ℕ) (online : old.store.offline ≡ None) (keeps : KeepsStore m old.store store)
    (damaged : old.damage < 2 ^ 64) (short : old.shortages < 2 ^ 64) where
  pub fault_outer : (fault : SpaceFault) (refusal : Refusal) → IsRefusal fault refusal
      → ReadsData {T = Unit {0}} (Err fault)
      → TellsFault m old.store store (pool_answer {T = Unit {0}} (Err fault))
      → CountsFault fault old.damage damage old.shortages shortages
      → IsOuter m places old (record old { store = store; damage = damage; shortages = shortages }) refusal
  fault_outer (space.Full limit) refusal is own told counts = absurd own
  fault_outer (space.Damaged it) refusal is own told counts = subst (λ (r : Refusal). IsOuter m places old
      (record old { store = store; damage = damage; shortages = shortages }) r) (sym is) (record {
        may = record {
          cause = rose_one old.damage damage counts.0;
          offline = rw online tt;
          down = keeps.offline;
        };
        refused = λ o h t. refl;
        told = λ t name o h stands. refl;
        damage = never_less old.damage damage damaged counts.0;
        shortages = let same = counts.1 in omega (arith, same);
      })
  fault_outer (space.Pool (faults.Absent n)) refusal is own told counts = subst (λ (r : Refusal).
      IsOuter m places old (record old { store = store; damage = damage; shortages = shortages }) r) (sym is)
      (record {
        may = record {
          cause = rose_one old.damage damage counts.0;
          offline = rw online tt;
          down = keeps.offline;
        };
        refused = λ o h t. refl;
        told = λ t name o h stands. refl;
        damage = never_less old.damage damage damaged counts.0;
        shortages = let same = counts.1 in omega (arith, same);
      })
  fault_outer (space.Pool (faults.DiskRead n)) refusal is own told counts = subst (λ (r : Refusal).
      IsOuter m places old (record old { store = store; damage = damage; shortages = shortages }) r) (sym is)
      (record {
        may = record { cause = told.2.2; offline = rw online tt; down = keeps.offline };
        refused = λ o h t. refl;
        told = λ t name o h stands. refl;
        damage = let same = counts.0 in omega (arith, same);
        shortages = let same = counts.1 in omega (arith, same);
      })
  fault_outer (space.Pool faults.Memory) refusal is own told counts = subst (λ (r : Refusal).
      IsOuter m places old (record old { store = store; damage = damage; shortages = shortages }) r) (sym is)
      (record {
        may = record { cause = tt; offline = rw online tt; down = keeps.offline };
        refused = λ o h t. refl;
        told = λ t name o h stands. refl;
        damage = let same = counts.0 in omega (arith, same);
        shortages = let same = counts.1 in omega (arith, same);
      })
  fault_outer (space.Pool (faults.DiskWrite n)) refusal is own told counts =
      let both : None ≡ Some n = sym (keeps.offline ∙ online) ∙ told.1 in absurd cc
  fault_outer (space.Pool (faults.Offline n)) refusal is own told counts =
      let both : None ≡ Some n = sym online ∙ told.0 in absurd cc
