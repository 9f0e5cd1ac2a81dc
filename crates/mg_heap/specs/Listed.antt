-- A slot is a record of a table, by the place that its page names itself.
use Rattle.std.specs.Prelude.{◌≡◌, ℕ, true, List, Option, None, Some}
use Rattle.mg_base.specs.Disk.{Meaning}
use Rattle.mg_base.specs.declared.numbers.RecId.{RecId}
use Rattle.mg_image.specs.Form.{Pages}
use Rattle.mg_pool.specs.declared.batch.BatchPage.{BatchPage}
use Rattle.mg_pool.specs.declared.pool.Pool.{Pool}
use Rattle.mg_slots.specs.DataPage.{cell_of}
use Rattle.mg_space.specs.declared.fault.SpaceFault.{SpaceFault}
use Rattle.mg_space.specs.declared.fault.SpaceFault.TheVariants as faults
use Rattle.mg_heap.specs.Places.{FindsPlace, RefusesPlace}
use Rattle.mg_heap.specs.Reading.{IsSomeData, owner_in, sequence_in}
use Rattle.mg_heap.specs.Walk.{is_primary}

-- A page is a data page that names this owner, and a slot of it is the primary slot of a record.
pub record IsRecordAt (b : List ℕ) (owner : ℕ) (rec : RecId) : Type 0 where
  pub data_page : IsSomeData rec.page b
  pub its : owner_in b ≡ owner
  pub primary : is_primary (cell_of b rec.slot) ≡ true

-- the place that the page of a record of an owner names; none where it is none
abbrev pub NamesPlace : List ℕ → ℕ → RecId → Option ℕ → Type 0
NamesPlace b owner rec None = IsRecordAt b owner rec → ⊥
NamesPlace b owner rec (Some place) = IsRecordAt b owner rec × (place ≡ sequence_in b)

-- A slot is a record of a table: its page names the table as its owner, the table has the page at the
-- place that it names, and the slot is a primary one.
pub record IsRecordOf (pages : Pages) (owner : ℕ) (rec : RecId) : Type 0 where
  pub stands : IsRecordAt (pages rec.page.0) owner rec
  pub listed : FindsPlace pages owner (sequence_in (pages rec.page.0)) (Some rec.page)

-- a fault of the cache, and no damage
abbrev pub IsOfCache : SpaceFault → Type 0
IsOfCache (faults.Full limit) = ⊥
IsOfCache (faults.Damaged damage) = ⊥
IsOfCache (faults.Pool fault) = Unit {0}

-- why it is not told whether a slot is a record of a table, but for faults of the cache: the table's
-- chain breaks before the place that the page names
abbrev pub RefusesRecordOf : {D L : Type 0} → Meaning D → Pool D L → List BatchPage → Pages → ℕ → RecId
    → SpaceFault → Type 0
RefusesRecordOf m store batch pages owner rec (faults.Full limit) = ⊥
RefusesRecordOf m store batch pages owner rec (faults.Damaged damage) =
    IsRecordAt (pages rec.page.0) owner rec
    × RefusesPlace m store batch pages owner (sequence_in (pages rec.page.0)) (faults.Damaged damage)
RefusesRecordOf m store batch pages owner rec (faults.Pool fault) = Unit {0}
