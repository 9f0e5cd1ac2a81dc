-- The pages of lawful tables are found, and their records are read.
use Rattle.std.specs.Prelude.{ℕ, Bool, Option}
use Rattle.mg_base.specs.Disk.{Meaning}
use Rattle.mg_base.specs.Image.{Image}
use Rattle.mg_base.specs.declared.damage.Damaged.{Damaged}
use Rattle.mg_base.specs.declared.numbers.PageNo.{PageNo}
use Rattle.mg_base.specs.declared.numbers.RecId.{RecId}
use Rattle.mg_heap.specs.Reach.{RefusesReach}
use Rattle.mg_heap.specs.Stands.{StandsIn}
use Rattle.mg_heap.specs.Walk.{RefusesWalk}
use Rattle.mg_image.specs.RecordRules.{Facts}
use Rattle.mg_image.specs.Records.{Reading}
use Rattle.mg_image.specs.Tables.{Has, Stand}
use Rattle.mg_model.specs.declared.table.Table.{Table}
use Rattle.mg_pool.specs.Batch.{Changed}
use Rattle.mg_pool.specs.Pool.{shown}
use Rattle.mg_pool.specs.declared.pool.Pool.{Pool}
use Rattle.mg_seek.specs.Refusals.{IsVisitDamage}
use Rattle.mg_seek.specs.Speaking.{IsTableDamage}
use Rattle.mg_space.specs.View.{viewed}
use Rattle.mg_space.specs.declared.fault.SpaceFault.TheVariants as faults
use Rattle.mg_space.specs.declared.links.FireLinks.{FireLinks}
use Rattle.mg_no_damage_laws.specs.Sees.{SeesLawful, StandsOn, no_batch}

-- One who sees lawful records sees where a table stands.
pub record SeesTable {D : Type 0} (m : Meaning D) (store : Pool D FireLinks) (image : Image)
    (batch : Changed) (f : Facts) (r : Reading) (stand : Stand) (table : Table) : Type 0 where
  pub sees : SeesLawful m store image batch f r
  pub stands : StandsOn store.geometry.size (viewed store image batch) f stand table

-- the pages of the table are found
abbrev pub WalksAreWhole : {D : Type 0} → Meaning D → Type 0
WalksAreWhole {D} m = (store : Pool D FireLinks) (image : Image) (batch : Changed) (f : Facts) (r : Reading)
    (stand : Stand) (table : Table) → SeesTable m store image batch f r stand table → (it : Damaged)
    → RefusesWalk m store batch.pages (viewed store image batch) table.pointer.0 (faults.Damaged it) → ⊥

-- the pointer pages are found by which one of its data pages is reached
abbrev pub PlacesAreKnown : {D : Type 0} → Meaning D → Type 0
PlacesAreKnown {D} m = (store : Pool D FireLinks) (image : Image) (batch : Changed) (f : Facts) (r : Reading)
    (stand : Stand) (table : Table) → SeesTable m store image batch f r stand table → (n : PageNo)
    → Has stand.data_pages n.0 → (damage : Damaged)
    → RefusesReach m store batch.pages (viewed store image batch) table.pointer.0 n (faults.Damaged damage)
    → ⊥

-- the rows of all its records are read
abbrev pub TablesAreRead : {D : Type 0} → Meaning D → Type 0
TablesAreRead {D} m = (store : Pool D FireLinks) (image : Image) (batch : Changed) (f : Facts) (r : Reading)
    (stand : Stand) (table : Table) → SeesTable m store image batch f r stand table → (takes : ℕ → Bool)
    (it : Damaged) → IsTableDamage m store batch.pages (viewed store image batch) takes table it → ⊥

-- a walk over the table comes to its next record, with its row
abbrev pub VisitsAreMade : {D : Type 0} → Meaning D → Type 0
VisitsAreMade {D} m = (store : Pool D FireLinks) (image : Image) (f : Facts) (r : Reading) (stand : Stand)
    (table : Table) → SeesTable m store image no_batch f r stand table → (takes : ℕ → Bool) (after : Option RecId)
    → StandsIn stand.data_pages after → (damage : Damaged)
    → IsVisitDamage m store (shown store.dirty image) takes table after damage → ⊥
