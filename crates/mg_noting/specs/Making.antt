-- A table's directory is made by one pass over its records, and kept.
use Rattle.std.specs.Prelude.{◌≡◌, ◌<◌, ℕ, Bool, List, [], Option, None, Some, Result, Ok, Err, length}
use Rattle.mg_base.specs.Disk.{Meaning}
use Rattle.mg_base.specs.declared.numbers.RecId.{RecId}
use Rattle.mg_base.specs.declared.transaction.TxState.{TxState}
use Rattle.mg_directory.specs.Bounds.{IsTooLarge, Places}
use Rattle.mg_directory.specs.Candidates.{ByKey, Kept, KeepsOrDrops, MarksFor, Noted, by_table, under}
use Rattle.mg_image.specs.Form.{Pages}
use Rattle.mg_model.specs.declared.table.Table.{Table}
use Rattle.mg_pool.specs.declared.fault.PoolFault.TheVariants.{Memory}
use Rattle.mg_pool.specs.declared.pool.Pool.{Pool}
use Rattle.mg_snap.specs.Live.{State}
use Rattle.mg_space.specs.declared.fault.SpaceFault.{SpaceFault}
use Rattle.mg_space.specs.declared.fault.SpaceFault.TheVariants as faults
use Rattle.mg_seek.specs.Speaking.{RefusesTableRows}
use Rattle.mg_seek.specs.TableRecords.{AreTableRecords}
use Rattle.mg_noting.specs.Building.{IsBuilt}

-- A directory has each record of the table under the key that was read of it.
pub record IsBuiltOf (state : ℕ → TxState) (live : State) (view : Pages) (table : Table) (dir : ByKey)
    : Type 0 where
  pub records : List RecId
  pub of_table : AreTableRecords view table.pointer.0 records
  pub built : IsBuilt state live view table records dir

-- None is made: nothing has changed, but that the table may be marked where it has too many records.
pub record IsLeft (view : Pages) (table : Table) (old new : Kept) : Type 0 where
  pub records : List RecId
  pub of_table : AreTableRecords view table.pointer.0 records
  pub dirs : new.dirs ≡ old.dirs
  pub marks : MarksFor (old.most < length records) old new table.pointer.0

-- A directory of the table is made, and what is kept is as it was.
pub record IsFilled (state : ℕ → TxState) (live : State) (view : Pages) (table : Table) (old new : Kept)
    (dir : Noted) : Type 0 where
  pub its : dir.first ≡ table.pointer.0
  pub built : IsBuiltOf state live view table (under dir)
  pub same : new ≡ old

abbrev pub Fills : (ℕ → TxState) → State → Pages → Table → Kept → Kept → Option Noted → Type 0
Fills state live view table old new None = IsLeft view table old new
Fills state live view table old new (Some dir) = IsFilled state live view table old new dir

-- A directory is kept, or left out for want of memory or of room beside others.
pub record KeepsIt (old new : Kept) (dir : Noted) : Type 0 where
  pub keeps : KeepsOrDrops (by_table old.dirs) (by_table new.dirs) dir.first (under dir)
  pub places : Places old new dir
  pub marks : MarksFor (IsTooLarge old dir) old new dir.first

-- so it is, if there is one
abbrev pub KeepsIf : Kept → Kept → Option Noted → Type 0
KeepsIf old new None = new ≡ old
KeepsIf old new (Some dir) = KeepsIt old new dir

-- A directory that was made is kept so.
pub record KeepsMade (state : ℕ → TxState) (live : State) (view : Pages) (table : Table) (old new : Kept)
    : Type 0 where
  pub dir : Noted
  pub its : dir.first ≡ table.pointer.0
  pub built : IsBuiltOf state live view table (under dir)
  pub kept : KeepsIt old new dir

-- The directory of a table is made, or none is: it has one or is marked, memory is wanting, or it has too many records.
pub data Makes (state : ℕ → TxState) (live : State) (view : Pages) (table : Table) (old new : Kept) : Type 0 where
  not_made : new ≡ old → Makes state live view table old new
  left_so : IsLeft view table old new → Makes state live view table old new
  made : KeepsMade state live view table old new → Makes state live view table old new

-- want of memory, as a fault of the cache
abbrev pub no_memory : SpaceFault
no_memory = faults.Pool Memory

-- want of memory is forgiven, and any other fault is handed on
abbrev pub Forgives : SpaceFault → Result (Unit {0}) SpaceFault → Type 0
Forgives fault (Ok x) = fault ≡ no_memory
Forgives fault (Err told) = (told ≡ fault) × (fault ≡ no_memory → ⊥)

-- why a directory is not made, but for faults of the cache: the table's rows are not read; want of memory is no reason
abbrev pub RefusesMaking : {D L : Type 0} → Meaning D → Pool D L → Pages → (ℕ → Bool) → Table → SpaceFault → Type 0
RefusesMaking m store view takes table fault =
    RefusesTableRows m store [] view takes table fault × (fault ≡ no_memory → ⊥)
