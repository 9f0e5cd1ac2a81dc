-- Rows are changed over a sound image without damage: the batches are filled, and each that was filled is lawful.
use Rattle.std.specs.Prelude.{◌≡◌, ◌≤◌, ◌+◌, length, ℕ, Some}
use Rattle.mg_base.specs.Disk.{Meaning}
use Rattle.mg_base.specs.Image.{Image}
use Rattle.mg_base.specs.declared.damage.Damaged.{Damaged}
use Rattle.mg_base.specs.declared.numbers.RecId.{RecId}
use Rattle.mg_base.specs.declared.transaction.TxState.{TxState}
use Rattle.mg_chain.specs.Writing.{GivesSpot}
use Rattle.mg_heap.specs.Apart.{HasPlace}
use Rattle.mg_image.specs.Form.{packed_form}
use Rattle.mg_image.specs.Records.{Reading}
use Rattle.mg_image.specs.Sound.{IsSoundBy}
use Rattle.mg_image.specs.Tables.{Layout, stands_of, table_at}
use Rattle.mg_model.specs.declared.table.Table.{Table}
use Rattle.mg_no_damage_laws.specs.Sees.{no_batch}
use Rattle.mg_pool.specs.Batch.{Changed}
use Rattle.mg_pool.specs.Pool.{shown}
use Rattle.mg_pool.specs.declared.pool.Pool.{Pool}
use Rattle.mg_row_writes.specs.Changing.{FailsFirst, FailsOver, FailsPlace, FailsReplacing, FailsTakingOut}
use Rattle.mg_space.specs.Taking.{IsGeometry}
use Rattle.mg_space.specs.View.{Tells, viewed}
use Rattle.mg_space.specs.declared.fault.SpaceFault.TheVariants as faults
use Rattle.mg_space.specs.declared.links.FireLinks.{FireLinks}
use Rattle.mg_image_overlay_laws.specs.tables.Growing.{IsTableOf}
use Rattle.mg_version.specs.declared.cell.Version.{Version}
use Rattle.mg_no_damage_laws.specs.Writes.{IsRecordOf}

-- A cache shows a sound image, over a disk that tells what it holds.
pub record ShowsSound {D : Type 0} (m : Meaning D) (store : Pool D FireLinks) (image : Image)
    (state : ℕ → TxState) (layout : Layout) (r : Reading) : Type 0 where
  pub tells : Tells m store.disk image
  pub geometry : IsGeometry store.geometry
  pub sound : IsSoundBy packed_form store.geometry.size state (shown store.dirty image) layout r

-- a place for a record is taken
abbrev pub PlacesAreTaken : {D : Type 0} → Meaning D → Type 0
PlacesAreTaken {D} m = (before after : Pool D FireLinks) (image : Image) (state : ℕ → TxState) (layout : Layout)
    (r : Reading) → ShowsSound m before image state layout r → (table : Table) → IsTableOf layout table
    → (it : Damaged) → FailsPlace m before after table.pointer.0 (faults.Damaged it) → ⊥

-- it is the least free slot of its page then, and has room for an anchor
abbrev pub PlacesHaveRoom : {D : Type 0} → Meaning D → Type 0
PlacesHaveRoom {D} m = (store : Pool D FireLinks) (image : Image) (state : ℕ → TxState) (layout : Layout)
    (r : Reading) → ShowsSound m store image state layout r → (table : Table) → IsTableOf layout table
    → (batch : Changed) (at : RecId) → GivesSpot store image no_batch batch table.pointer.0 at
    → HasPlace (viewed store image batch at.page.0) at.slot

-- a record is made at a place of a table that is such a slot, of a version that fits a page
abbrev pub RecordsAreMade : {D : Type 0} → Meaning D → Type 0
RecordsAreMade {D} m = (before after : Pool D FireLinks) (image : Image) (state : ℕ → TxState) (layout : Layout)
    (r : Reading) → ShowsSound m before image state layout r → (table : Table) → IsTableOf layout table
    → (rec : RecId) → table_at (stands_of layout) rec.page.0 ≡ Some table
    → HasPlace (shown before.dirty image rec.page.0) rec.slot → (v : Version)
    → length v.body + 42 ≤ before.geometry.size → (it : Damaged)
    → FailsFirst m before after table.pointer.0 rec v (faults.Damaged it) → ⊥

-- a version that fits a page is pushed over the newest one of a record
abbrev pub VersionsArePushed : {D : Type 0} → Meaning D → Type 0
VersionsArePushed {D} m = (before after : Pool D FireLinks) (image : Image) (state : ℕ → TxState)
    (layout : Layout) (r : Reading) → ShowsSound m before image state layout r → (rec : RecId) (table : Table)
    → IsRecordOf layout r rec table → (v : Version) → length v.body + 42 ≤ before.geometry.size
    → (it : Damaged) → FailsOver m before after rec v (faults.Damaged it) → ⊥

-- a transaction's own newest version is replaced by one that fits a page
abbrev pub VersionsAreReplaced : {D : Type 0} → Meaning D → Type 0
VersionsAreReplaced {D} m = (before after : Pool D FireLinks) (image : Image) (state : ℕ → TxState)
    (layout : Layout) (r : Reading) → ShowsSound m before image state layout r → (rec : RecId) (table : Table)
    (its : IsRecordOf layout r rec table) (v : Version) → its.newest.version.tx ≡ v.tx
    → length v.body + 42 ≤ before.geometry.size → (it : Damaged)
    → FailsReplacing m before after rec v (faults.Damaged it) → ⊥

-- the newest version of a record is taken out
abbrev pub VersionsAreTakenOut : {D : Type 0} → Meaning D → Type 0
VersionsAreTakenOut {D} m = (before after : Pool D FireLinks) (image : Image) (state : ℕ → TxState)
    (layout : Layout) (r : Reading) → ShowsSound m before image state layout r → (rec : RecId) (table : Table)
    → IsRecordOf layout r rec table → (it : Damaged)
    → FailsTakingOut m before after rec (faults.Damaged it) → ⊥
