-- The end of a transaction on its transaction inventory page.
use Rattle.std.specs.Prelude.{◌≡◌, ◌/◌, ◌%◌, ℕ, true, false, List, Option, Some, Result, Ok, Err}
use Rattle.mg_base.specs.Disk.{MayLeave, Meaning}
use Rattle.mg_base.specs.Image.{Image}
use Rattle.mg_base.specs.declared.numbers.PageNo.{PageNo}
use Rattle.mg_base.specs.declared.transaction.TxState.TheVariants.{Committed}
use Rattle.mg_pool.specs.Batch.{content_in, one_page, orders_of}
use Rattle.mg_pool.specs.Change.{Changes, ChangesOverlays}
use Rattle.mg_pool.specs.Dirty.{is_dirty}
use Rattle.mg_pool.specs.Fault.{OnlyWrites}
use Rattle.mg_pool.specs.Pool.{KeepsContent, LeavesOverlays}
use Rattle.mg_pool.specs.Refusal.{LeavesRefused}
use Rattle.mg_pool.specs.declared.fault.PoolFault.{PoolFault}
use Rattle.mg_pool.specs.Run.{HasWritten}
use Rattle.mg_pool.specs.declared.pool.Pool.{Pool}
use Rattle.mg_space.specs.declared.fault.SpaceFault.{SpaceFault}
use Rattle.mg_space.specs.declared.fault.SpaceFault.TheVariants as faults
use Rattle.mg_tip.specs.TipPage.{SetsState, places}
use Rattle.mg_txlist.specs.declared.list.TxList.{TxList}
use Rattle.mg_txlist.specs.TxList.{KeepsBits, tip_in}

-- the header page
abbrev pub header_first : Option PageNo
header_first = Some (record { 0 = 0 })

-- a call that reads nothing and takes no memory tells faults of page writes alone
abbrev pub OnlyWritesSpace : {T : Type 0} → Result T SpaceFault → Type 0
OnlyWritesSpace (Ok x) = Unit {0}
OnlyWritesSpace (Err (faults.Full limit)) = ⊥
OnlyWritesSpace (Err (faults.Damaged damage)) = ⊥
OnlyWritesSpace (Err (faults.Pool fault)) = OnlyWrites {T = Unit {0}} (Err fault)

-- A page was changed, with the order of the header before it.
pub record ChangesBits {D L : Type 0} (m : Meaning D) (old new : Pool D L) (page : PageNo)
    (bytes : List ℕ) : Type 0 where
  pub changes : Changes m old new (one_page page.0 bytes) (orders_of header_first page)
  pub frame : ChangesOverlays m (content_in (one_page page.0 bytes))
      (orders_of header_first page) old new
  pub crash : LeavesOverlays m old new

-- A page was changed, with the order of the header before it; then pages were written, each after
-- those that precede it, until it was on the disk; and the disk was settled.
pub record SettlesPage {D L : Type 0} (m : Meaning D) (old new : Pool D L) (page : PageNo)
    (bytes : List ℕ) : Type 0 where
  pub changed : Pool D L
  pub written : Pool D L
  pub changes : ChangesBits m old changed page bytes
  pub writes : HasWritten m changed written
  pub out : is_dirty written.dirty page.0 ≡ false
  pub settles : KeepsContent m written.disk new.disk
  pub same : new ≡ record written { disk = new.disk; faults = new.faults; offline = new.offline }
  pub durable : m.tells written.disk ≡ true → (image : Image) → MayLeave m new.disk image
      → m.held new.disk ≡ Some image

-- A page was not changed, or not written, or not settled.
pub data FailsToSettle {D L : Type 0} (m : Meaning D) (old new : Pool D L) (page : PageNo)
    (bytes : List ℕ) (fault : PoolFault) : Type 0 where
  not_changed : LeavesRefused {T = Unit {0}} m old new (Err fault)
      → FailsToSettle m old new page bytes fault
  not_written : (changed : Pool D L) → ChangesBits m old changed page bytes
      → LeavesRefused {T = Unit {0}} m changed new (Err fault)
      → FailsToSettle m old new page bytes fault
  not_settled : (changed written : Pool D L) → ChangesBits m old changed page bytes
      → HasWritten m changed written → is_dirty written.dirty page.0 ≡ false
      → KeepsContent m written.disk new.disk
      → new ≡ record written { disk = new.disk; faults = new.faults; offline = new.offline }
      → FailsToSettle m old new page bytes fault

-- The two bits of a transaction are set on its page, written and settled, and the list has the page
-- so.
pub record CommitsBits {D L : Type 0} (m : Meaning D) (old new : TxList) (before after : Pool D L)
    (t : ℕ) : Type 0 where
  pub bytes : List ℕ
  pub sets : SetsState (tip_in old (t / places old.size)).bytes bytes (t % places old.size)
      Committed
  pub settles : SettlesPage m before after
      (record { 0 = (tip_in old (t / places old.size)).page }) bytes
  pub keeps : KeepsBits old new (t / places old.size) bytes

-- The bits of a transaction were to be set on its page, and the page was not changed, not written,
-- or not settled.
pub record FailsCommit {D L : Type 0} (m : Meaning D) (old : TxList) (before after : Pool D L)
    (t : ℕ) (fault : PoolFault) : Type 0 where
  pub bytes : List ℕ
  pub sets : SetsState (tip_in old (t / places old.size)).bytes bytes (t % places old.size)
      Committed
  pub fails : FailsToSettle m before after
      (record { 0 = (tip_in old (t / places old.size)).page }) bytes fault
