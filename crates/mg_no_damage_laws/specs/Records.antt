-- Lawful records are read.
use Rattle.std.specs.Prelude.{◌≡◌, ℕ, Bool, Some}
use Rattle.mg_base.specs.Disk.{Meaning}
use Rattle.mg_base.specs.Image.{Image}
use Rattle.mg_base.specs.declared.damage.Damaged.{Damaged}
use Rattle.mg_base.specs.declared.numbers.RecId.{RecId}
use Rattle.mg_chain.specs.Refusals.{Follows, IsChainDamage, RefusesVersion}
use Rattle.mg_image.specs.RecordRules.{Facts, table_in}
use Rattle.mg_image.specs.Records.{Reading}
use Rattle.mg_model.specs.declared.table.Table.{Table}
use Rattle.mg_pool.specs.Batch.{Changed}
use Rattle.mg_pool.specs.declared.pool.Pool.{Pool}
use Rattle.mg_seek.specs.Refusals.{IsRecordDamage}
use Rattle.mg_space.specs.View.{viewed}
use Rattle.mg_space.specs.declared.fault.SpaceFault.TheVariants as faults
use Rattle.mg_space.specs.declared.links.FireLinks.{FireLinks}
use Rattle.mg_version.specs.declared.cell.Link.{Link}
use Rattle.mg_no_damage_laws.specs.Sees.{SeesLawful}

-- each link of a record's versions meets its version
abbrev pub VersionsAreThere : {D : Type 0} → Meaning D → Type 0
VersionsAreThere {D} m = (store : Pool D FireLinks) (image : Image) (batch : Changed) (f : Facts)
    (r : Reading) → SeesLawful m store image batch f r → (rec : RecId) (table : Table)
    → table_in f rec ≡ Some table → (n holder : ℕ) (l : Link)
    → Follows (viewed store image batch) rec n holder l → (it : Damaged)
    → RefusesVersion m store batch.pages (viewed store image batch) holder l
    (faults.Damaged it) → ⊥

-- a record's versions are followed to their end
abbrev pub ChainsAreWhole : {D : Type 0} → Meaning D → Type 0
ChainsAreWhole {D} m = (store : Pool D FireLinks) (image : Image) (batch : Changed) (f : Facts)
    (r : Reading) → SeesLawful m store image batch f r → (rec : RecId) (table : Table)
    → table_in f rec ≡ Some table → (it : Damaged)
    → IsChainDamage m store batch.pages (viewed store image batch) rec it → ⊥

-- the row of a record is read, whosever version it is; a table of the same shape may be given
abbrev pub RowsAreRead : {D : Type 0} → Meaning D → Type 0
RowsAreRead {D} m = (store : Pool D FireLinks) (image : Image) (batch : Changed) (f : Facts) (r : Reading)
    → SeesLawful m store image batch f r → (takes : ℕ → Bool) (rec : RecId) (table other : Table)
    → table_in f rec ≡ Some table → table.shape ≡ other.shape → (it : Damaged)
    → IsRecordDamage m store batch.pages (viewed store image batch) takes other rec it
    → ⊥
