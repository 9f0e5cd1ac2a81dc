-- Why the row of a record is not read, but for faults of the cache.
use Rattle.std.specs.Prelude.{◌≡◌, ◌⊎◌, ℕ, Bool, List, [], Option, Some}
use Rattle.mg_base.specs.Disk.{Meaning}
use Rattle.mg_base.specs.declared.damage.Damaged.{Damaged}
use Rattle.mg_base.specs.declared.numbers.RecId.{RecId}
use Rattle.mg_chain.specs.Refusals.{IsChainDamage}
use Rattle.mg_heap.specs.Walk.{GivesNext, RefusesNext}
use Rattle.mg_image.specs.Form.{Pages}
use Rattle.mg_model.specs.declared.table.Table.{Table}
use Rattle.mg_pool.specs.declared.batch.BatchPage.{BatchPage}
use Rattle.mg_pool.specs.declared.pool.Pool.{Pool}
use Rattle.mg_space.specs.declared.fault.SpaceFault.{SpaceFault}
use Rattle.mg_space.specs.declared.fault.SpaceFault.TheVariants as faults
use Rattle.mg_seek.specs.declared.walk.Placed.{Placed}
use Rattle.mg_seek.specs.Rows.{IsRowDamage}
use Rattle.mg_seek.specs.Versions.{IsFirst}

-- The damage of a record in whose versions a row is looked for: its versions are not followed, or
-- the body of the first one whose writer passes a test is damaged.
pub data IsRecordDamage {D L : Type 0} (m : Meaning D) (store : Pool D L) (pages : List BatchPage)
    (view : Pages) (takes : ℕ → Bool) (table : Table) (rec : RecId) : Damaged → Type 0 where
  bad_chain : (it : Damaged) → IsChainDamage m store pages view rec it
      → IsRecordDamage m store pages view takes table rec it
  bad_body : (p : Placed) (it : Damaged) → IsFirst view takes rec (Some p) → IsRowDamage table p it
      → IsRecordDamage m store pages view takes table rec it

-- why the row of a record's first version of those is not read
abbrev pub RefusesRecord : {D L : Type 0} → Meaning D → Pool D L → List BatchPage → Pages
    → (ℕ → Bool) → Table → RecId → SpaceFault → Type 0
RefusesRecord m store pages view takes table rec (faults.Full most) = ⊥
RefusesRecord m store pages view takes table rec (faults.Damaged it) =
    IsRecordDamage m store pages view takes table rec it
RefusesRecord m store pages view takes table rec (faults.Pool fault) = Unit {0}

-- The damage of a walk behind a record: the next record is not found, or its row is not read.
pub data IsVisitDamage {D L : Type 0} (m : Meaning D) (store : Pool D L) (view : Pages)
    (takes : ℕ → Bool) (table : Table) (after : Option RecId) : Damaged → Type 0 where
  no_next : (it : Damaged)
      → RefusesNext m store [] view table.pointer.0 after (faults.Damaged it)
      → IsVisitDamage m store view takes table after it
  bad_record : (rec : RecId) (it : Damaged) → GivesNext view table.pointer.0 after (Some rec)
      → IsRecordDamage m store [] view takes table rec it
      → IsVisitDamage m store view takes table after it

-- why a walk goes no further
abbrev pub RefusesVisit : {D L : Type 0} → Meaning D → Pool D L → Pages → (ℕ → Bool) → Table
    → Option RecId → SpaceFault → Type 0
RefusesVisit m store view takes table after (faults.Full most) = ⊥
RefusesVisit m store view takes table after (faults.Damaged it) =
    IsVisitDamage m store view takes table after it
RefusesVisit m store view takes table after (faults.Pool fault) = Unit {0}
