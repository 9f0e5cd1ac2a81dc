-- Why a chain of versions is not followed.
use Rattle.std.specs.Prelude.{◌≡◌, ◌≢◌, ◌⊎◌, ◌<◌, ◌≤◌, ◌+◌, ◌-◌, ◌^◌, ◌==◌, ℕ, List, length, Option, None, Some, if◌then◌else◌}
use Rattle.mg_base.specs.Disk.{Meaning}
use Rattle.mg_base.specs.declared.damage.Damaged.{Damaged}
use Rattle.mg_base.specs.declared.damage.Field.{Field}
use Rattle.mg_base.specs.declared.damage.Field.TheVariants as fields
use Rattle.mg_base.specs.declared.geometry.TheConstants.{GREATEST_LIMIT}
use Rattle.mg_base.specs.declared.numbers.RecId.{RecId}
use Rattle.mg_heap.specs.Reading.{RefusesData}
use Rattle.mg_image.specs.Form.{Pages}
use Rattle.mg_image.specs.Records.{cells_of}
use Rattle.mg_pool.specs.declared.batch.BatchPage.{BatchPage}
use Rattle.mg_pool.specs.declared.fault.PoolFault.TheVariants as pool_faults
use Rattle.mg_pool.specs.declared.pool.Pool.{Pool}
use Rattle.mg_slots.specs.DataPage.{cell_of}
use Rattle.mg_slots.specs.declared.page.TheConstants.{GREATEST_SIZE}
use Rattle.mg_space.specs.declared.fault.SpaceFault.{SpaceFault}
use Rattle.mg_space.specs.declared.fault.SpaceFault.TheVariants as faults
use Rattle.mg_version.specs.Cells.{RefusesCell}
use Rattle.mg_version.specs.declared.cell.Cell.{Cell}
use Rattle.mg_version.specs.declared.cell.Cell.TheVariants as cells
use Rattle.mg_version.specs.declared.cell.Link.{Link}
use Rattle.mg_chain.specs.Chains.{LeadsTo, newest_link}

abbrev pub damage : ℕ → Field → ℕ → ℕ → Damaged
damage page field found wanted =
    record { page = record { 0 = page }; field = field; found = found; wanted = wanted }

-- The length that is wanted of bytes of which so many are well formed: their whole length, or, where all of them are
-- and they only end too early, one byte more. So what is found differs from it.
abbrev pub length_wanted : ℕ → ℕ → ℕ
length_wanted at len = if at == len then at + 1 else len

-- the bytes of a cell spell none: the damage says how far they begin one
pub record IsCellDamage (page : ℕ) (bytes : List ℕ) (it : Damaged) : Type 0 where
  pub at : ℕ
  pub refuses : RefusesCell bytes at
  pub is : it ≡ damage page fields.Cell at (length_wanted at (length bytes))

-- why bytes are not read as a cell: they spell none, or memory is wanting
abbrev pub RefusesBytes : ℕ → List ℕ → SpaceFault → Type 0
RefusesBytes page bytes (faults.Full limit) = ⊥
RefusesBytes page bytes (faults.Damaged it) = IsCellDamage page bytes it
RefusesBytes page bytes (faults.Pool fault) = fault ≡ pool_faults.Memory

-- why the cell of a place is not read, but for faults of the cache: its page is not, or its bytes
-- spell no cell
abbrev pub RefusesCellAt : {D L : Type 0} → Meaning D → Pool D L → List BatchPage → Pages → RecId
    → SpaceFault → Type 0
RefusesCellAt m store pages view at (faults.Full limit) = ⊥
RefusesCellAt m store pages view at (faults.Damaged it) =
    RefusesData m store pages at.page (view at.page.0) (faults.Damaged it)
    ⊎ ((bytes : List ℕ) × (cell_of (view at.page.0) at.slot ≡ Some bytes)
    × IsCellDamage at.page.0 bytes it)
RefusesCellAt m store pages view at (faults.Pool fault) = Unit {0}

-- the body of a cell's version is no longer than a page
abbrev pub HasShortBody : Cell → Type 0
HasShortBody (cells.Anchor link) = Unit {0}
HasShortBody (cells.Version v) = length v.body ≤ GREATEST_SIZE

-- the transaction of a cell, 2^32 - 1 where it is no version
abbrev pub writer_in : Option Cell → ℕ
writer_in None = 2 ^ 32 - 1
writer_in (Some (cells.Anchor link)) = 2 ^ 32 - 1
writer_in (Some (cells.Version v)) = v.tx.0

-- a cell is no version of a transaction
abbrev pub IsOfOther : ℕ → Option Cell → Type 0
IsOfOther t None = Unit {0}
IsOfOther t (Some (cells.Anchor link)) = Unit {0}
IsOfOther t (Some (cells.Version v)) = v.tx.0 ≢ t

-- The damage of a link that is followed, which stands on a page: it names a page that no database
-- has, or meets no version of its transaction.
pub data IsLinkDamage (view : Pages) (holder : ℕ) (l : Link) : Damaged → Type 0 where
  past : GREATEST_LIMIT ≤ l.rec.page.0
      → IsLinkDamage view holder l (damage holder fields.Link l.rec.page.0 (GREATEST_LIMIT - 1))
  target : IsOfOther l.tx.0 (cells_of view l.rec)
      → IsLinkDamage view holder l
      (damage l.rec.page.0 fields.Target (writer_in (cells_of view l.rec)) l.tx.0)

-- why a version is not read by its link, but for faults of the cache
abbrev pub RefusesVersion : {D L : Type 0} → Meaning D → Pool D L → List BatchPage → Pages → ℕ
    → Link → SpaceFault → Type 0
RefusesVersion m store pages view holder l (faults.Full most) = ⊥
RefusesVersion m store pages view holder l (faults.Damaged it) =
    RefusesCellAt m store pages view l.rec (faults.Damaged it)
    ⊎ IsLinkDamage view holder l it
RefusesVersion m store pages view holder l (faults.Pool fault) = Unit {0}

-- following the links of a record's versions comes to a link after so many steps
abbrev pub Follows : Pages → RecId → ℕ → ℕ → Link → Type 0
Follows view rec n holder l =
    LeadsTo (cells_of view) (newest_link view rec) rec.page.0 n holder l

-- The damage of a record's versions: its primary slot is not read, or a version that its links lead
-- to; or the links come back to a place where they were, or lead further than 2^32 - 2 steps.
pub data IsChainDamage {D L : Type 0} (m : Meaning D) (store : Pool D L) (pages : List BatchPage)
    (view : Pages) (rec : RecId) : Damaged → Type 0 where
  primary : (it : Damaged) → RefusesCellAt m store pages view rec (faults.Damaged it)
      → IsChainDamage m store pages view rec it
  version : (n holder : ℕ) (l : Link) (it : Damaged) → Follows view rec n holder l
      → RefusesVersion m store pages view holder l (faults.Damaged it)
      → IsChainDamage m store pages view rec it
  comes_back : (n before holder earlier : ℕ) (l first : Link) → Follows view rec n holder l
      → Follows view rec earlier before first → earlier < n → l.rec ≡ first.rec
      → IsChainDamage m store pages view rec (damage holder fields.Link l.rec.page.0 0)
  too_long : (n holder : ℕ) (l : Link) → Follows view rec n holder l → 2 ^ 32 - 1 ≤ n
      → IsChainDamage m store pages view rec (damage holder fields.Link l.rec.page.0 0)

-- why a record's versions are not followed, but for faults of the cache
abbrev pub RefusesChain : {D L : Type 0} → Meaning D → Pool D L → List BatchPage → Pages → RecId
    → SpaceFault → Type 0
RefusesChain m store pages view rec (faults.Full most) = ⊥
RefusesChain m store pages view rec (faults.Damaged it) =
    IsChainDamage m store pages view rec it
RefusesChain m store pages view rec (faults.Pool fault) = Unit {0}
