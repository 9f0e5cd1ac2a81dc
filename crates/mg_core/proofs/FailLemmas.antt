-- What a refused beginning leaves.
use Rattle.std.proofs.Common.{◌≡◌, inl, ℕ, None, Some, Err, sym, ◌∙◌, subst}
use Rattle.mg_base.specs.Disk.{Meaning}
use Rattle.mg_base.specs.declared.numbers.TxNo.{TxNo}
use Rattle.mg_model.specs.declared.event.Mode.{Mode}
use Rattle.mg_model.specs.declared.refusal.Refusal.{Refusal}
use Rattle.mg_pool.specs.Fault.{TellsFault}
use Rattle.mg_pool.specs.declared.fault.PoolFault.TheVariants as faults
use Rattle.mg_space.specs.View.{pool_answer}
use Rattle.mg_space.specs.declared.fault.SpaceFault.{SpaceFault}
use Rattle.mg_space.specs.declared.fault.SpaceFault.TheVariants as space
use Rattle.mg_core.specs.declared.parts.Core.{Core}
use Rattle.mg_core.specs.Beginning.{BeginsFor, FailsBegin}
use Rattle.mg_core.specs.RefusingLaws.{full_is}
use Rattle.mg_core.specs.Refusing.{IsRefusal}

-- a fault of the drawing is none of those that are told before it
pub begins_refused : {D : Type 0} (m : Meaning D) (old final : Core D) (session : ℕ) (mode : Mode)
    (refusal : Refusal) (fails : FailsBegin m old final refusal) → BeginsFor m old final session mode (Err refusal)
begins_refused m old final session mode refusal fails = at fails.fault fails.is fails.told
  where
    as_told : (other : Refusal) → refusal ≡ other
        → (FailsBegin m old final other → BeginsFor m old final session mode (Err other))
        → BeginsFor m old final session mode (Err refusal)
    as_told other is gives = subst (λ (r : Refusal). BeginsFor m old final session mode (Err r)) (sym is)
        (gives (subst (λ (r : Refusal). FailsBegin m old final r) is fails))

    at : (fault : SpaceFault) → IsRefusal fault refusal
        → TellsFault m old.store final.store (pool_answer {T = TxNo} (Err fault))
        → BeginsFor m old final session mode (Err refusal)
    at (space.Full limit) is told = as_told _ (full_is refusal is).1 (λ f. inl f)
    at (space.Damaged damage) is told = as_told _ is (λ f. inl f)
    at (space.Pool (faults.DiskRead n)) is told = as_told _ is (λ f. inl f)
    at (space.Pool (faults.DiskWrite n)) is told = as_told _ is (λ f. inl f)
    at (space.Pool (faults.Offline n)) is told = absurd (let h : None ≡ Some n = sym fails.online ∙ told.0 in cc)
    at (space.Pool (faults.Absent n)) is told = as_told _ is (λ f. inl f)
    at (space.Pool faults.Memory) is told = as_told _ is (λ f. inl f)
