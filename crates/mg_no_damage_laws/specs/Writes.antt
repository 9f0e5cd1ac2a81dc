-- Batches are filled over a sound image without damage.
use Rattle.std.specs.Prelude.{◌≡◌, ◌≤◌, ◌+◌, ℕ, List, ◌∷◌, length, Some}
use Rattle.mg_base.specs.Disk.{Meaning}
use Rattle.mg_base.specs.Image.{Image}
use Rattle.mg_base.specs.declared.damage.Damaged.{Damaged}
use Rattle.mg_base.specs.declared.numbers.RecId.{RecId}
use Rattle.mg_base.specs.declared.transaction.TxState.{TxState}
use Rattle.mg_chain.specs.WritingRefusals.{RefusesBackOut, RefusesPush, RefusesReplace, RefusesSpot}
use Rattle.mg_heap.specs.Room.{RefusesRoom}
use Rattle.mg_image.specs.Form.{packed_form}
use Rattle.mg_image.specs.Records.{Reading}
use Rattle.mg_image.specs.Sound.{IsSoundBy}
use Rattle.mg_image.specs.Tables.{Layout, stands_of, table_at}
use Rattle.mg_image.specs.declared.entry.Entry.{Entry}
use Rattle.mg_model.specs.declared.table.Table.{Table}
use Rattle.mg_no_damage_laws.specs.Sees.{no_batch}
use Rattle.mg_pool.specs.Batch.{Changed}
use Rattle.mg_pool.specs.Pool.{shown}
use Rattle.mg_pool.specs.declared.pool.Pool.{Pool}
use Rattle.mg_space.specs.Taking.{IsGeometry}
use Rattle.mg_space.specs.View.{KeepsStore, Tells, viewed}
use Rattle.mg_space.specs.declared.fault.SpaceFault.TheVariants as faults
use Rattle.mg_space.specs.declared.links.FireLinks.{FireLinks}
use Rattle.mg_image_overlay_laws.specs.tables.Growing.{IsTableOf}
use Rattle.mg_version.specs.declared.cell.Version.{Version}

-- A call that was refused, and has only read, began over a sound image.
pub record SeesSound {D : Type 0} (m : Meaning D) (old new : Pool D FireLinks) (image : Image)
    (state : ℕ → TxState) (layout : Layout) (r : Reading) : Type 0 where
  pub tells : Tells m old.disk image
  pub keeps : KeepsStore m old new
  pub geometry : IsGeometry old.geometry
  pub sound : IsSoundBy packed_form old.geometry.size state (shown old.dirty image) layout r

-- a page with room is found in a table, or is made, or no page is free
abbrev pub RoomIsFound : {D : Type 0} → Meaning D → Type 0
RoomIsFound {D} m = (old new : Pool D FireLinks) (image : Image) (state : ℕ → TxState) (layout : Layout)
    (r : Reading) → SeesSound m old new image state layout r → (table : Table) → IsTableOf layout table
    → (it : Damaged) → RefusesRoom m old new image no_batch table.pointer.0 (faults.Damaged it) → ⊥

-- a place for a record is given
abbrev pub SpotsAreGiven : {D : Type 0} → Meaning D → Type 0
SpotsAreGiven {D} m = (old new : Pool D FireLinks) (image : Image) (state : ℕ → TxState) (layout : Layout)
    (r : Reading) → SeesSound m old new image state layout r → (table : Table) → IsTableOf layout table
    → (it : Damaged) → RefusesSpot m old new image no_batch table.pointer.0 (faults.Damaged it) → ⊥

-- The record of a place is a table's, and has versions.
pub record IsRecordOf (layout : Layout) (r : Reading) (rec : RecId) (table : Table) : Type 0 where
  pub of : table_at (stands_of layout) rec.page.0 ≡ Some table
  pub newest : Entry
  pub older : List Entry
  pub are : r rec ≡ newest ∷ older

-- a version that fits a page is pushed over the newest one
abbrev pub PushesAreFilled : {D : Type 0} → Meaning D → Type 0
PushesAreFilled {D} m = (old new : Pool D FireLinks) (image : Image) (state : ℕ → TxState) (layout : Layout)
    (r : Reading) → SeesSound m old new image state layout r → (rec : RecId) (table : Table)
    → IsRecordOf layout r rec table → (v : Version) → length v.body + 42 ≤ old.geometry.size
    → (it : Damaged) → RefusesPush m old new image no_batch rec v (faults.Damaged it) → ⊥

-- the newest version is taken out
abbrev pub BackOutsAreFilled : {D : Type 0} → Meaning D → Type 0
BackOutsAreFilled {D} m = (old new : Pool D FireLinks) (image : Image) (state : ℕ → TxState) (layout : Layout)
    (r : Reading) → SeesSound m old new image state layout r
    → (rec : RecId) (table : Table)
    → IsRecordOf layout r rec table → (it : Damaged)
    → RefusesBackOut m old new image no_batch rec (faults.Damaged it) → ⊥

-- a transaction's own newest version is replaced by one that fits a page
abbrev pub ReplacementsAreFilled : {D : Type 0} → Meaning D → Type 0
ReplacementsAreFilled {D} m = (old new : Pool D FireLinks) (image : Image) (state : ℕ → TxState)
    (layout : Layout) (r : Reading) → SeesSound m old new image state layout r
    → (rec : RecId) (table : Table)
    (its : IsRecordOf layout r rec table) (v : Version) → its.newest.version.tx ≡ v.tx
    → length v.body + 42 ≤ old.geometry.size → (it : Damaged)
    → RefusesReplace m old new image no_batch rec v (faults.Damaged it) → ⊥

-- ---- in a batch that has something

-- The cache at the end of a call that was refused shows what it showed before, and the pages are sound as a batch has them.
pub record SeesSoundSo {D : Type 0} (m : Meaning D) (old new : Pool D FireLinks) (image : Image) (batch : Changed)
    (state : ℕ → TxState) (layout : Layout) (r : Reading) : Type 0 where
  pub like : new.dirty ≡ old.dirty
  pub same : new.geometry ≡ old.geometry
  pub tells : Tells m new.disk image
  pub sound : IsSoundBy packed_form old.geometry.size state (viewed old image batch) layout r

-- the newest version of a record is taken out in it
abbrev pub BackOutsGoOn : {D : Type 0} → Meaning D → Type 0
BackOutsGoOn {D} m = (old new : Pool D FireLinks) (image : Image) (batch : Changed) (state : ℕ → TxState)
    (layout : Layout) (r : Reading) → SeesSoundSo m old new image batch state layout r → (rec : RecId)
    (table : Table) → IsRecordOf layout r rec table → (it : Damaged)
    → RefusesBackOut m old new image batch rec (faults.Damaged it) → ⊥
