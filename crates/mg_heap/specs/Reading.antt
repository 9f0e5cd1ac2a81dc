-- A data page is read by its number alone: whose it is it says itself.
use Rattle.std.specs.Prelude.{◌≡◌, ◌⊎◌, ℕ, List, Option, Some, Result, Ok, Err}
use Rattle.mg_base.specs.Disk.{Meaning}
use Rattle.mg_base.specs.Fields.{u32_at}
use Rattle.mg_base.specs.declared.damage.Damaged.{Damaged}
use Rattle.mg_base.specs.declared.fields.TheConstants.{OWNER_AT, SEQUENCE_AT}
use Rattle.mg_base.specs.declared.numbers.PageNo.{PageNo}
use Rattle.mg_base.specs.declared.numbers.RecId.{RecId}
use Rattle.mg_pool.specs.declared.batch.BatchPage.{BatchPage}
use Rattle.mg_pool.specs.declared.pool.Pool.{Pool}
use Rattle.mg_slots.specs.Damage.{IsFirstDamage}
use Rattle.mg_slots.specs.DataPage.{IsDataPage, cell_of}
use Rattle.mg_space.specs.Lawful.{IsLawfulData, readable}
use Rattle.mg_space.specs.View.{IsMissing, OnlyReads, absence}
use Rattle.mg_space.specs.declared.fault.SpaceFault.{SpaceFault}
use Rattle.mg_space.specs.declared.fault.SpaceFault.TheVariants as faults

-- the owner that a page names: its table's first pointer page
abbrev pub owner_in : List ℕ → ℕ
owner_in b = u32_at b OWNER_AT

-- the place that a page names, among the pages of its owner
abbrev pub sequence_in : List ℕ → ℕ
sequence_in b = u32_at b SEQUENCE_AT

-- a page is the data page of some owner at some place: those that it names
abbrev pub IsSomeData : PageNo → List ℕ → Type 0
IsSomeData page b = IsLawfulData page b

-- a page is no data page of any owner: the first field that shows it
abbrev pub IsNoData : PageNo → List ℕ → Damaged → Type 0
IsNoData page b damage = IsFirstDamage b page (owner_in b) (sequence_in b) damage

-- a page is missing, and is named with the number of pages that are there
abbrev pub IsAbsence : {D L : Type 0} → Meaning D → Pool D L → List BatchPage → PageNo → Damaged
    → Type 0
IsAbsence m store pages page damage =
    (count : ℕ) × (damage ≡ absence page count) × IsMissing m store pages page.0 count

-- a call that reads data pages fails by the cache alone, or by damage
abbrev pub ReadsData : {T : Type 0} → Result T SpaceFault → Type 0
ReadsData (Ok x) = Unit {0}
ReadsData (Err (faults.Full limit)) = ⊥
ReadsData (Err (faults.Damaged damage)) = Unit {0}
ReadsData (Err (faults.Pool fault)) = OnlyReads {T = Unit {0}} (Err (faults.Pool fault))

-- why a page with these bytes is not read as a data page, but for faults of the cache: it is
-- missing, or it is none
abbrev pub RefusesData : {D L : Type 0} → Meaning D → Pool D L → List BatchPage → PageNo → List ℕ
    → SpaceFault → Type 0
RefusesData m store pages page b (faults.Full limit) = ⊥
RefusesData m store pages page b (faults.Damaged damage) =
    IsAbsence m store pages page damage ⊎ IsNoData page b damage
RefusesData m store pages page b (faults.Pool fault) = Unit {0}

-- a page is readable, and is a data page
pub record HoldsData {D L : Type 0} (store : Pool D L) (pages : List BatchPage) (page : PageNo) : Type 0
  where
    pub bytes : List ℕ
    pub read : readable store pages page.0 ≡ Some bytes
    pub data_page : IsSomeData page bytes

-- the cell of a slot of a data page has been found, or that there is none
pub record GivesCell (at : RecId) (b : List ℕ) (found : Option (List ℕ)) : Type 0 where
  pub data_page : IsSomeData at.page b
  pub is_cell : found ≡ cell_of b at.slot
