-- A commit whose bits were not set.
use Rattle.std.proofs.Common.{◌≡◌, inr, ℕ, Err, refl, ap, ◌∙◌, subst}
use Rattle.mg_base.specs.Disk.{Meaning}
use Rattle.mg_model.specs.declared.refusal.Refusal.{Refusal}
use Rattle.mg_pool.specs.Fault.{OnlyWrites, TellsFault}
use Rattle.mg_pool.specs.declared.fault.PoolFault.{PoolFault}
use Rattle.mg_pool.specs.declared.fault.PoolFault.TheVariants as faults
use Rattle.mg_pool.specs.declared.pool.Pool.{Pool}
use Rattle.mg_space.specs.View.{pool_answer}
use Rattle.mg_space.specs.declared.fault.SpaceFault.{SpaceFault}
use Rattle.mg_space.specs.declared.fault.SpaceFault.TheVariants as space
use Rattle.mg_space.specs.declared.links.FireLinks.{FireLinks}
use Rattle.mg_txlist.specs.Ending.{FailsCommit, OnlyWritesSpace}
use Rattle.mg_txlist.specs.declared.list.TxList.{TxList}
use Rattle.mg_core.specs.declared.parts.Core.{Core}
use Rattle.mg_core.specs.Cores.{Continues}
use Rattle.mg_core.specs.Ending.{FailsToCommit, RefusesCommit}
use Rattle.mg_core.specs.Events.{EndsWait}
use Rattle.mg_core.specs.Refusing.{IsRefusal, IsRefusalOf}

module _ {D : Type 0} (m : Meaning D) (old ended : Core D) (t : ℕ) (store : Pool D FireLinks) (list : TxList)
    (refusal : Refusal) (continues : Continues old t) (wait : EndsWait old ended t) (same : list ≡ ended.list) where
  store_is : ended.store ≡ old.store
  store_is = ap (λ (c : Core D). c.store) wait.same

  list_is : ended.list ≡ old.list
  list_is = ap (λ (c : Core D). c.list) wait.same

  fails : (fault : PoolFault) → IsRefusalOf fault refusal → OnlyWrites {T = Unit {0}} (Err fault)
      → TellsFault {T = Unit {0}} m ended.store store (Err fault)
      → FailsCommit m ended.list ended.store store t fault
      → FailsToCommit m old (record ended { store = store; list = list }) t refusal
  fails fault is only told failed = record {
    continues = continues;
    over = wait.over;
    fault = fault;
    is = is;
    only = only;
    told = subst (λ (s : Pool D FireLinks). TellsFault {T = Unit {0}} m s store (Err fault)) store_is told;
    fails = subst (λ (s : Pool D FireLinks). FailsCommit m old.list s store t fault) store_is
        (subst (λ (l : TxList). FailsCommit m l ended.store store t fault) list_is failed);
    same = ap (λ (c : Core D). record c { store = store; list = list }) wait.same
        ∙ ap (λ (l : TxList). record old { waits = ended.waits; store = store; list = l }) (same ∙ list_is);
  }

  pub commit_fails : (fault : SpaceFault) → OnlyWritesSpace {T = Unit {0}} (Err fault)
      → TellsFault m ended.store store (pool_answer {T = Unit {0}} (Err fault))
      → ((f : PoolFault) → fault ≡ space.Pool f → FailsCommit m ended.list ended.store store t f)
      → IsRefusal fault refusal → RefusesCommit m old (record ended { store = store; list = list }) t refusal
  commit_fails (space.Full limit) own told failed is = absurd own
  commit_fails (space.Damaged damage) own told failed is = absurd own
  commit_fails (space.Pool (faults.DiskRead n)) own told failed is = absurd own
  commit_fails (space.Pool (faults.DiskWrite n)) own told failed is = inr (fails (faults.DiskWrite n) is tt told
      (failed (faults.DiskWrite n) refl))
  commit_fails (space.Pool (faults.Offline n)) own told failed is = inr (fails (faults.Offline n) is tt told
      (failed (faults.Offline n) refl))
  commit_fails (space.Pool (faults.Absent n)) own told failed is = absurd own
  commit_fails (space.Pool faults.Memory) own told failed is = absurd own
