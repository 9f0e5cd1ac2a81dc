-- Lemmas on a walk that visits one record after another.
use Rattle.std.proofs.Common.{◌≡◌, ◌⊎◌, inl, inr, ℕ, Bool, List, [], Option, None, Some, sym, subst}
use Rattle.std.specs.Prelude.{unwrap_or}
use Rattle.mg_base.specs.Disk.{Meaning}
use Rattle.mg_base.specs.Image.{Image}
use Rattle.mg_base.specs.declared.numbers.RecId.{RecId}
use Rattle.mg_base.specs.declared.numbers.TxNo.{TxNo}
use Rattle.mg_base.specs.declared.transaction.TxState.{TxState}
use Rattle.mg_heap.specs.Walk.{GivesNext, RefusesNext}
use Rattle.mg_image.specs.Form.{Pages, Row}
use Rattle.mg_model.specs.declared.table.Table.{Table}
use Rattle.mg_pool.specs.Batch.{Changed, content_in}
use Rattle.mg_pool.specs.Pool.{shown}
use Rattle.mg_pool.specs.declared.batch.BatchPage.{BatchPage}
use Rattle.mg_pool.specs.declared.pool.Pool.{Pool}
use Rattle.mg_snap.specs.Live.{State}
use Rattle.mg_space.specs.declared.fault.SpaceFault.{SpaceFault}
use Rattle.mg_space.specs.declared.fault.SpaceFault.TheVariants as faults
use Rattle.mg_seek.specs.Refusals.{RefusesRecord, RefusesVisit, bad_record, no_next}
use Rattle.mg_seek.specs.Views.{IsRowSeen, IsVisit}

module _ {D L : Type 0} (m : Meaning D) (store : Pool D L) (view : Pages)
    (takes : ℕ → Bool) (table : Table) (after : Option RecId) where
  next_full : (after : Option RecId) (most : ℕ)
      → RefusesNext m store [] view table.pointer.0 after (faults.Full most) → ⊥
  next_full None most refused = refused
  next_full (Some x) most (inl refused) = refused
  next_full (Some x) most (inr refused) = refused.1

  pub next_refuses : (fault : SpaceFault) → RefusesNext m store [] view table.pointer.0 after fault
      → RefusesVisit m store view takes table after fault
  next_refuses (faults.Full most) refused = next_full after most refused
  next_refuses (faults.Damaged it) refused = no_next it refused
  next_refuses (faults.Pool fault) refused = tt

  pub visit_refuses : (found : Option RecId) (rec : RecId) (fault : SpaceFault)
      → GivesNext view table.pointer.0 after found → found ≡ Some rec
      → RefusesRecord m store [] view takes table rec fault
      → RefusesVisit m store view takes table after fault
  visit_refuses found rec (faults.Full most) next is refused = refused
  visit_refuses found rec (faults.Damaged it) next is refused =
      bad_record rec it (subst (GivesNext view table.pointer.0 after) is next) refused
  visit_refuses found rec (faults.Pool fault) next is refused = tt

pub visit_ends : (state : ℕ → TxState) (live : State) (t : TxNo) (view : Pages) (table : Table)
    (after found : Option RecId) → GivesNext view table.pointer.0 after found → found ≡ None
    → IsVisit state live t view table after None
visit_ends state live t view table after found next is =
    subst (GivesNext view table.pointer.0 after) is next

pub visit_comes : (state : ℕ → TxState) (live : State) (t : TxNo) (view : Pages) (table : Table)
    (after found : Option RecId) (rec : RecId) (row : Option Row)
    → GivesNext view table.pointer.0 after found → found ≡ Some rec
    → IsRowSeen state live t view table rec row
    → IsVisit state live t view table after (Some (record { rec = rec; row = row }))
visit_comes state live t view table after found rec row next is seen =
    (subst (GivesNext view table.pointer.0 after) is next, seen)

-- a batch that puts nothing shows what the cache shows
pub sees_shown : {D L : Type 0} (store : Pool D L) (image : Image) (batch : Changed)
    (P : List BatchPage → Pages → Type 0) → batch.pages ≡ []
    → P batch.pages (λ n. unwrap_or (content_in batch.pages n) (shown store.dirty image n))
    → P [] (shown store.dirty image)
sees_shown store image batch P empty holds = subst (λ (pages : List BatchPage).
    P pages (λ n. unwrap_or (content_in pages n) (shown store.dirty image n))) empty holds
