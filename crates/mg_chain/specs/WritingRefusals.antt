-- Why the versions of a record are not written.
use Rattle.std.specs.Prelude.{◌≡◌, ◌≢◌, ◌⊎◌, ◌+◌, ℕ, List, length, Option, None, Some}
use Rattle.mg_base.specs.Disk.{Meaning}
use Rattle.mg_base.specs.Image.{Image}
use Rattle.mg_base.specs.declared.damage.Damaged.{Damaged}
use Rattle.mg_base.specs.declared.damage.Field.TheVariants as fields
use Rattle.mg_base.specs.declared.numbers.PageNo.{PageNo}
use Rattle.mg_base.specs.declared.numbers.RecId.{RecId}
use Rattle.mg_base.specs.declared.numbers.TxNo.{TxNo}
use Rattle.mg_heap.specs.Apart.{AddsApart, RefusesAddApart}
use Rattle.mg_heap.specs.Changing.{MayHave}
use Rattle.mg_heap.specs.Reach.{RefusesOwner, RefusesReach}
use Rattle.mg_heap.specs.Reading.{IsSomeData, RefusesData}
use Rattle.mg_heap.specs.Room.{AddsCell, GivesRoom, RefusesAdd, RefusesRoom}
use Rattle.mg_image.specs.Form.{Pages}
use Rattle.mg_image.specs.Records.{cells_of}
use Rattle.mg_pool.specs.Batch.{Changed}
use Rattle.mg_pool.specs.declared.batch.BatchPage.{BatchPage}
use Rattle.mg_pool.specs.declared.fault.PoolFault.TheVariants as pool_faults
use Rattle.mg_pool.specs.declared.pool.Pool.{Pool}
use Rattle.mg_space.specs.View.{KeepsStore, viewed}
use Rattle.mg_space.specs.declared.fault.SpaceFault.{SpaceFault}
use Rattle.mg_space.specs.declared.fault.SpaceFault.TheVariants as faults
use Rattle.mg_version.specs.Cells.{IsSpelling}
use Rattle.mg_version.specs.declared.cell.Cell.{Cell}
use Rattle.mg_version.specs.declared.cell.Cell.TheVariants as cells
use Rattle.mg_version.specs.declared.cell.Link.{Link}
use Rattle.mg_version.specs.declared.cell.TheConstants.{ANCHOR_LEN}
use Rattle.mg_version.specs.declared.cell.Version.{Version}
use Rattle.mg_chain.specs.Refusals.{RefusesCellAt, RefusesVersion, damage, writer_in}
use Rattle.mg_chain.specs.Writing.{HasHead, HasNewest, PutsVersion, TurnsBack, leading_to, link_to}

-- memory is wanting
abbrev pub IsMemory : SpaceFault → Type 0
IsMemory fault = fault ≡ faults.Pool pool_faults.Memory

-- a slot has no anchor: found is the transaction of the version there, or 2^32 - 1, and none is wanted
pub record IsNoAnchor (rec : RecId) (cell : Option Cell) (it : Damaged) : Type 0 where
  pub none : (link : Link) → cell ≢ Some (cells.Anchor link)
  pub is : it ≡ damage rec.page.0 fields.Target (writer_in cell) 0

-- why the head of a record is not read, but for faults of the cache
abbrev pub RefusesHead : {D L : Type 0} → Meaning D → Pool D L → List BatchPage → Pages → RecId
    → SpaceFault → Type 0
RefusesHead m store pages view rec (faults.Full most) = ⊥
RefusesHead m store pages view rec (faults.Damaged it) =
    RefusesCellAt m store pages view rec (faults.Damaged it)
    ⊎ (IsNoAnchor rec (cells_of view rec) it
    ⊎ RefusesOwner m store pages rec.page (view rec.page.0) (faults.Damaged it))
RefusesHead m store pages view rec (faults.Pool fault) = Unit {0}

-- why the newest version of a record is not read, with its head, but for faults of the cache
abbrev pub RefusesNewest : {D L : Type 0} → Meaning D → Pool D L → List BatchPage → Pages → RecId
    → SpaceFault → Type 0
RefusesNewest m store pages view rec (faults.Full most) = ⊥
RefusesNewest m store pages view rec (faults.Damaged it) =
    RefusesHead m store pages view rec (faults.Damaged it)
    ⊎ ((link : Link) × (cells_of view rec ≡ Some (cells.Anchor link))
    × RefusesVersion m store pages view rec.page.0 link (faults.Damaged it))
RefusesNewest m store pages view rec (faults.Pool fault) = Unit {0}

-- No anchor may stand in a slot: found is its number, and one slot more than that is wanted.
pub record HasNoPlace (view : Pages) (at : RecId) (it : Damaged) : Type 0 where
  pub page_is : IsSomeData at.page (view at.page.0)
  pub bytes : List ℕ
  pub len : length bytes ≡ ANCHOR_LEN
  pub none : MayHave (view at.page.0) at.slot bytes → ⊥
  pub is : it ≡ damage at.page.0 fields.Count at.slot (at.slot + 1)

-- why a slot is not turned, but for faults of the cache: its page is no data page, or no anchor may
-- stand there
abbrev pub RefusesTurn : {D L : Type 0} → Meaning D → Pool D L → List BatchPage → Pages → RecId
    → SpaceFault → Type 0
RefusesTurn m store pages view at (faults.Full most) = ⊥
RefusesTurn m store pages view at (faults.Damaged it) =
    RefusesData m store pages at.page (view at.page.0) (faults.Damaged it) ⊎ HasNoPlace view at it
RefusesTurn m store pages view at (faults.Pool fault) = Unit {0}

-- why no place is given for a record
pub data RefusesSpot {D L : Type 0} (m : Meaning D) (old new : Pool D L) (image : Image)
    (batch : Changed) (owner : ℕ) (fault : SpaceFault) : Type 0 where
  spot_room : RefusesRoom m old new image batch owner fault → RefusesSpot m old new image batch owner fault
  spot_page : (given : Changed) (page : PageNo) → GivesRoom old image batch given owner ANCHOR_LEN page
      → RefusesData m new given.pages page (viewed old image given page.0) fault
      → RefusesSpot m old new image batch owner fault

-- why a version's cell is not put
pub data RefusesPutVersion {D L : Type 0} (m : Meaning D) (old new : Pool D L) (image : Image)
    (batch : Changed) (owner : ℕ) (bytes : List ℕ) (fault : SpaceFault) : Type 0 where
  put_adds : RefusesAdd m old new image batch owner bytes fault
      → RefusesPutVersion m old new image batch owner bytes fault
  put_reaches : (at : RecId) (put : Changed) → AddsCell old image batch put owner bytes at
      → RefusesReach m new put.pages (viewed old image put) owner at.page fault
      → RefusesPutVersion m old new image batch owner bytes fault

-- why a version's cell is not pushed
pub data RefusesPushCell {D L : Type 0} (m : Meaning D) (old new : Pool D L) (image : Image)
    (batch : Changed) (rec : RecId) (owner : ℕ) (bytes : List ℕ) (fault : SpaceFault) : Type 0 where
  push_memory : IsMemory fault → RefusesPushCell m old new image batch rec owner bytes fault
  push_puts : RefusesPutVersion m old new image batch owner bytes fault
      → RefusesPushCell m old new image batch rec owner bytes fault
  push_turns : (at : RecId) (pointers : List ℕ) (put : Changed)
      → PutsVersion old image batch put owner bytes at pointers
      → RefusesTurn m new put.pages (viewed old image put) rec fault
      → RefusesPushCell m old new image batch rec owner bytes fault

-- Why a version is not pushed. Pages are read before the first is changed: then the cache is `ready`.
pub data RefusesPush {D L : Type 0} (m : Meaning D) (old new : Pool D L) (image : Image)
    (batch : Changed) (rec : RecId) (v : Version) (fault : SpaceFault) : Type 0 where
  pushed_memory : IsMemory fault → RefusesPush m old new image batch rec v fault
  pushed_head : RefusesHead m new batch.pages (viewed old image batch) rec fault
      → RefusesPush m old new image batch rec v fault
  pushed_cell : (newest : Link) (owner : ℕ) (bytes : List ℕ) (ready : Pool D L)
      → HasHead (viewed old image batch) rec newest owner
      → IsSpelling bytes (cells.Version (leading_to v (Some newest))) → KeepsStore m old ready
      → RefusesPushCell m ready new image batch rec owner bytes fault
      → RefusesPush m old new image batch rec v fault

-- why the cell of a first version is not put
pub data RefusesPutFirst {D L : Type 0} (m : Meaning D) (old new : Pool D L) (image : Image)
    (batch : Changed) (owner : ℕ) (rec : RecId) (bytes : List ℕ) (fault : SpaceFault) : Type 0 where
  first_adds : RefusesAddApart m old new image batch owner rec bytes fault
      → RefusesPutFirst m old new image batch owner rec bytes fault
  first_reaches : (at : RecId) (put : Changed) → AddsApart old image batch put owner rec bytes at
      → RefusesReach m new put.pages (viewed old image put) owner at.page fault
      ⊎ RefusesReach m new put.pages (viewed old image put) owner rec.page fault
      → RefusesPutFirst m old new image batch owner rec bytes fault

-- why a record is not made of a cell
pub data RefusesFirstCell {D L : Type 0} (m : Meaning D) (old new : Pool D L) (image : Image)
    (batch : Changed) (owner : ℕ) (rec : RecId) (bytes : List ℕ) (fault : SpaceFault) : Type 0 where
  first_memory : IsMemory fault → RefusesFirstCell m old new image batch owner rec bytes fault
  first_puts : RefusesPutFirst m old new image batch owner rec bytes fault
      → RefusesFirstCell m old new image batch owner rec bytes fault
  first_turns : (at : RecId) (put : Changed) → AddsApart old image batch put owner rec bytes at
      → RefusesTurn m new put.pages (viewed old image put) rec fault
      → RefusesFirstCell m old new image batch owner rec bytes fault

-- why a record is not made
pub data RefusesFirst {D L : Type 0} (m : Meaning D) (old new : Pool D L) (image : Image)
    (batch : Changed) (owner : ℕ) (rec : RecId) (v : Version) (fault : SpaceFault) : Type 0 where
  made_offline : (n : ℕ) → fault ≡ faults.Pool (pool_faults.Offline n)
      → RefusesFirst m old new image batch owner rec v fault
  made_memory : IsMemory fault → RefusesFirst m old new image batch owner rec v fault
  made_cell : (bytes : List ℕ) → IsSpelling bytes (cells.Version (leading_to v None))
      → RefusesFirstCell m old new image batch owner rec bytes fault
      → RefusesFirst m old new image batch owner rec v fault

-- why a slot is not turned and the cell freed to which it led
pub data RefusesSwing {D L : Type 0} (m : Meaning D) (old new : Pool D L) (image : Image)
    (batch : Changed) (rec left : RecId) (to : Option Link) (fault : SpaceFault) : Type 0 where
  swing_turns : RefusesTurn m new batch.pages (viewed old image batch) rec fault
      → RefusesSwing m old new image batch rec left to fault
  swing_frees : (turned : Changed) → TurnsBack old image batch turned rec to
      → RefusesData m new turned.pages left.page (viewed old image turned left.page.0) fault
      → RefusesSwing m old new image batch rec left to fault

-- why a version that is to be moved is not put
pub data RefusesPutMoved {D L : Type 0} (m : Meaning D) (old new : Pool D L) (image : Image)
    (batch : Changed) (rec : RecId) (owner : ℕ) (bytes : List ℕ) (fault : SpaceFault) : Type 0 where
  moved_puts : RefusesPutVersion m old new image batch owner bytes fault
      → RefusesPutMoved m old new image batch rec owner bytes fault
  moved_reaches : (at : RecId) (pointers : List ℕ) (put : Changed)
      → PutsVersion old image batch put owner bytes at pointers
      → RefusesReach m new put.pages (viewed old image put) owner rec.page fault
      → RefusesPutMoved m old new image batch rec owner bytes fault

-- why a cell is not moved
pub data RefusesMove {D L : Type 0} (m : Meaning D) (old new : Pool D L) (image : Image)
    (batch : Changed) (rec : RecId) (newest : Link) (owner : ℕ) (bytes : List ℕ) (tx : TxNo)
    (fault : SpaceFault) : Type 0 where
  move_memory : IsMemory fault → RefusesMove m old new image batch rec newest owner bytes tx fault
  move_puts : RefusesPutMoved m old new image batch rec owner bytes fault
      → RefusesMove m old new image batch rec newest owner bytes tx fault
  move_swings : (at : RecId) (pointers : List ℕ) (put : Changed) (ready : Pool D L)
      → PutsVersion old image batch put owner bytes at pointers → KeepsStore m old ready
      → RefusesSwing m ready new image put rec newest.rec (Some (link_to at tx)) fault
      → RefusesMove m old new image batch rec newest owner bytes tx fault

-- why a cell is neither written over nor moved
pub data RefusesOverwrite {D L : Type 0} (m : Meaning D) (old new : Pool D L) (image : Image)
    (batch : Changed) (rec : RecId) (newest : Link) (owner : ℕ) (bytes : List ℕ) (tx : TxNo)
    (fault : SpaceFault) : Type 0 where
  over_reads : RefusesData m new batch.pages newest.rec.page (viewed old image batch newest.rec.page.0) fault
      → RefusesOverwrite m old new image batch rec newest owner bytes tx fault
  over_moves : (ready : Pool D L) → KeepsStore m old ready
      → RefusesMove m ready new image batch rec newest owner bytes tx fault
      → RefusesOverwrite m old new image batch rec newest owner bytes tx fault

-- Why a version is not replaced. Pages are read before the first is changed: then the cache is `ready`.
pub data RefusesReplace {D L : Type 0} (m : Meaning D) (old new : Pool D L) (image : Image)
    (batch : Changed) (rec : RecId) (v : Version) (fault : SpaceFault) : Type 0 where
  replace_memory : IsMemory fault → RefusesReplace m old new image batch rec v fault
  replace_newest : RefusesNewest m new batch.pages (viewed old image batch) rec fault
      → RefusesReplace m old new image batch rec v fault
  replace_other : (newest : Link) (owner : ℕ) (was : Version)
      → HasNewest (viewed old image batch) rec newest owner was → was.tx ≢ v.tx
      → fault ≡ faults.Damaged (damage newest.rec.page.0 fields.Target was.tx.0 v.tx.0)
      → RefusesReplace m old new image batch rec v fault
  replace_writes : (newest : Link) (owner : ℕ) (was : Version) (bytes : List ℕ) (ready : Pool D L)
      → HasNewest (viewed old image batch) rec newest owner was
      → IsSpelling bytes (cells.Version (leading_to v was.back)) → KeepsStore m old ready
      → RefusesOverwrite m ready new image batch rec newest owner bytes v.tx fault
      → RefusesReplace m old new image batch rec v fault

-- why a cell is not taken out of a record
pub data RefusesTakeCellOut {D L : Type 0} (m : Meaning D) (old new : Pool D L) (image : Image)
    (batch : Changed) (rec : RecId) (newest : Link) (owner : ℕ) (back : Option Link)
    (fault : SpaceFault) : Type 0 where
  out_memory : IsMemory fault → RefusesTakeCellOut m old new image batch rec newest owner back fault
  out_reaches : RefusesReach m new batch.pages (viewed old image batch) owner rec.page fault
      → RefusesTakeCellOut m old new image batch rec newest owner back fault
  out_swings : (ready : Pool D L) → KeepsStore m old ready
      → RefusesSwing m ready new image batch rec newest.rec back fault
      → RefusesTakeCellOut m old new image batch rec newest owner back fault

-- Why a version is not taken out. Pages are read before the first is changed: then the cache is `ready`.
pub data RefusesBackOut {D L : Type 0} (m : Meaning D) (old new : Pool D L) (image : Image)
    (batch : Changed) (rec : RecId) (fault : SpaceFault) : Type 0 where
  back_newest : RefusesNewest m new batch.pages (viewed old image batch) rec fault
      → RefusesBackOut m old new image batch rec fault
  back_takes : (newest : Link) (owner : ℕ) (was : Version) (ready : Pool D L)
      → HasNewest (viewed old image batch) rec newest owner was → KeepsStore m old ready
      → RefusesTakeCellOut m ready new image batch rec newest owner was.back fault
      → RefusesBackOut m old new image batch rec fault
