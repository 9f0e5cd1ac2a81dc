-- A record is collected.
use Rattle.std.specs.Prelude.{◌≡◌, ◌≤◌, ℕ, Bool, false, List, [], length}
use Rattle.mg_base.specs.Disk.{Meaning}
use Rattle.mg_base.specs.Image.{Image}
use Rattle.mg_base.specs.declared.numbers.RecId.{RecId}
use Rattle.mg_base.specs.declared.transaction.TxState.{TxState}
use Rattle.mg_heap.specs.Listed.{IsRecordOf, RefusesRecordOf}
use Rattle.mg_image.specs.Records.{Cells, cells_of}
use Rattle.mg_image.specs.declared.entry.Entry.{Entry}
use Rattle.mg_model.specs.declared.table.Table.{Table}
use Rattle.mg_pool.specs.Fault.{StaysOnline}
use Rattle.mg_pool.specs.Pool.{shown}
use Rattle.mg_pool.specs.declared.pool.Pool.{Pool}
use Rattle.mg_snap.specs.Live.{State}
use Rattle.mg_space.specs.View.{KeepsStore, Tells}
use Rattle.mg_space.specs.declared.fault.SpaceFault.{SpaceFault}
use Rattle.mg_space.specs.declared.links.FireLinks.{FireLinks}
use Rattle.mg_chain.specs.Lists.{Reads}
use Rattle.mg_collecting.specs.Leaving.{HasInOrder}
use Rattle.mg_collecting.specs.LinkedLaws.{relinked}
use Rattle.mg_collecting.specs.Remaining.{remaining}
use Rattle.mg_collecting.specs.Steps.{DoesPart, FailsPart, FailsReading}

-- A record has versions, so many.
pub record HasCount (h : Cells) (p : RecId) (count : ℕ) : Type 0 where
  pub versions : List Entry
  pub its : HasInOrder h p versions
  pub many : length versions ≡ count

-- A record has versions, and no more than so many.
pub record HasAtMost (h : Cells) (p : RecId) (most : ℕ) : Type 0 where
  pub versions : List Entry
  pub its : HasInOrder h p versions
  pub few : length versions ≤ most

-- A record has versions: its links come to an end.
pub record HasVersions (h : Cells) (p : RecId) : Type 0 where
  pub versions : List Entry
  pub its : HasInOrder h p versions

-- A record is collected: its links were followed to their end, and what remains of its versions is left.
pub record Collects {D : Type 0} (m : Meaning D) (before after : Pool D FireLinks) (state : ℕ → TxState) (live : State)
    (rec : RecId) (gone : Bool) : Type 0 where
  pub ends : (image : Image) → Tells m before.disk image → HasVersions (cells_of (shown before.dirty image)) rec
  pub collected : DoesPart m before after state live rec (remaining state live) gone

-- it is not, or not to the end
abbrev pub FailsCollecting : {D : Type 0} → Meaning D → Pool D FireLinks → Pool D FireLinks → (ℕ → TxState) → State
    → RecId → SpaceFault → Type 0
FailsCollecting m before after state live rec fault =
    FailsPart m before after state live rec (remaining state live) fault

-- What the versions of a record are as an image is read, they are in order; and versions in order are read, each leading
-- to the next.
pub record OrderIsRead : Type 0 where
  pub read : (h : Cells) (p : RecId) (es : List Entry) → Reads h p es → HasInOrder h p es
  pub ordered : (h : Cells) (p : RecId) (es : List Entry) → HasInOrder h p es → Reads h p (relinked es)

-- ---- of a table

-- A record of a table is collected; what is no record of it is left.
pub data CollectsOf {D : Type 0} (m : Meaning D) (before after : Pool D FireLinks) (state : ℕ → TxState) (live : State)
    (table : Table) (rec : RecId) (gone : Bool) : Type 0 where
  no_record : gone ≡ false → KeepsStore m before after → StaysOnline m before after
      → ((image : Image) → Tells m before.disk image → IsRecordOf (shown before.dirty image) table.pointer.0 rec → ⊥)
      → CollectsOf m before after state live table rec gone
  a_record : (ready : Pool D FireLinks) → KeepsStore m before ready → StaysOnline m before ready
      → ((image : Image) → Tells m before.disk image → IsRecordOf (shown before.dirty image) table.pointer.0 rec)
      → Collects m ready after state live rec gone → CollectsOf m before after state live table rec gone

-- it is not told whether it is a record of the table, or it is, and is not collected to the end
pub data FailsCollectingOf {D : Type 0} (m : Meaning D) (before after : Pool D FireLinks) (state : ℕ → TxState)
    (live : State) (table : Table) (rec : RecId) (fault : SpaceFault) : Type 0 where
  not_told : FailsReading m before after
      (λ image f. RefusesRecordOf m after [] (shown before.dirty image) table.pointer.0 rec f) fault
      → FailsCollectingOf m before after state live table rec fault
  not_collected : (ready : Pool D FireLinks) → KeepsStore m before ready → StaysOnline m before ready
      → ((image : Image) → Tells m before.disk image → IsRecordOf (shown before.dirty image) table.pointer.0 rec)
      → FailsCollecting m ready after state live rec fault
      → FailsCollectingOf m before after state live table rec fault
