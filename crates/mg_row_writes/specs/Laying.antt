-- A version comes into the record of its key, and before it the entries of its row into the indexes of the table.
use Rattle.std.specs.Prelude.{◌≡◌, ℕ, Result, Ok, Err}
use Rattle.mg_base.specs.Disk.{Meaning}
use Rattle.mg_base.specs.declared.numbers.RecId.{RecId}
use Rattle.mg_entries.specs.Entries.{FailsAll, KeysFit, LaysAll}
use Rattle.mg_model.specs.declared.table.Table.{Table}
use Rattle.mg_pool.specs.declared.pool.Pool.{Pool}
use Rattle.mg_records.specs.declared.write.Write.{Write}
use Rattle.mg_records.specs.declared.write.Write.TheVariants as writes
use Rattle.mg_space.specs.declared.fault.SpaceFault.{SpaceFault}
use Rattle.mg_space.specs.declared.links.FireLinks.{FireLinks}
use Rattle.mg_version.specs.declared.cell.Version.{Version}
use Rattle.mg_row_writes.specs.Changing.{FailsFirst, FailsOver, FailsPlace, FailsReplacing, FailsTakingOut, MakesFirst, PushesOver, ReplacesNewest, TakesNewestOut, TakesPlace}
use Rattle.mg_row_writes.specs.declared.before.Way.{Way}
use Rattle.mg_row_writes.specs.declared.before.Way.TheVariants as ways

-- ---- the entries

-- the keys of a write's row are short enough for the indexes of its table; a deletion has no entries
abbrev pub KeysMayBeLaid : ℕ → Table → Write → Type 0
KeysMayBeLaid size table (writes.Insert row) = KeysFit size row table.indexes
KeysMayBeLaid size table (writes.Change key row) = KeysFit size row table.indexes
KeysMayBeLaid size table (writes.Erase key) = Unit {0}

-- the entries of a write's row are laid for a record in the indexes of its table; of a deletion none are
abbrev pub EntersRow : {D : Type 0} → Meaning D → Pool D FireLinks → Pool D FireLinks → Table → RecId → Write
    → Type 0
EntersRow m before after table rec (writes.Insert row) = LaysAll m table.indexes rec row before after
EntersRow m before after table rec (writes.Change key row) = LaysAll m table.indexes rec row before after
EntersRow m before after table rec (writes.Erase key) = after ≡ before

-- they are laid in some indexes, and in the next one the entry is not
abbrev pub FailsEntering : {D : Type 0} → Meaning D → Pool D FireLinks → Pool D FireLinks → Table → RecId → Write
    → SpaceFault → Type 0
FailsEntering m before after table rec (writes.Insert row) fault =
    FailsAll m table.indexes rec row before after fault
FailsEntering m before after table rec (writes.Change key row) fault =
    FailsAll m table.indexes rec row before after fault
FailsEntering m before after table rec (writes.Erase key) fault = ⊥

-- The entries are laid, and then the record gets its version.
pub record EntersThen {D : Type 0} (m : Meaning D) (before : Pool D FireLinks) (table : Table) (rec : RecId)
    (write : Write) (puts : Pool D FireLinks → Type 0) : Type 0 where
  pub entered : Pool D FireLinks
  pub enters : EntersRow m before entered table rec write
  pub lays : puts entered

-- The entries are not all laid; or they are, and the record does not get its version.
pub data FailsThen {D : Type 0} (m : Meaning D) (before after : Pool D FireLinks) (table : Table) (rec : RecId)
    (write : Write) (fails : Pool D FireLinks → SpaceFault → Type 0) (fault : SpaceFault) : Type 0 where
  not_entered : FailsEntering m before after table rec write fault
      → FailsThen m before after table rec write fails fault
  not_put_in : (entered : Pool D FireLinks) → EntersRow m before entered table rec write → fails entered fault
      → FailsThen m before after table rec write fails fault

-- ---- the ways

-- the entries are laid, and then a record is made at its place
abbrev pub EntersFirst : {D : Type 0} → Meaning D → Pool D FireLinks → Pool D FireLinks → Table → RecId → Write
    → Version → Type 0
EntersFirst m before after table at write v =
    EntersThen m before table at write (λ entered. MakesFirst m entered after table.pointer.0 at v)

abbrev pub FailsEnterFirst : {D : Type 0} → Meaning D → Pool D FireLinks → Pool D FireLinks → Table → RecId → Write
    → Version → SpaceFault → Type 0
FailsEnterFirst m before after table at write v fault = FailsThen m before after table at write
    (λ entered given. FailsFirst m entered after table.pointer.0 at v given) fault

-- or the version is pushed over the newest one
abbrev pub EntersOver : {D : Type 0} → Meaning D → Pool D FireLinks → Pool D FireLinks → Table → RecId → Write
    → Version → Type 0
EntersOver m before after table rec write v =
    EntersThen m before table rec write (λ entered. PushesOver m entered after rec v)

abbrev pub FailsEnterOver : {D : Type 0} → Meaning D → Pool D FireLinks → Pool D FireLinks → Table → RecId → Write
    → Version → SpaceFault → Type 0
FailsEnterOver m before after table rec write v fault = FailsThen m before after table rec write
    (λ entered given. FailsOver m entered after rec v given) fault

-- or it replaces the transaction's own newest one
abbrev pub EntersOwn : {D : Type 0} → Meaning D → Pool D FireLinks → Pool D FireLinks → Table → RecId → Write
    → Version → Type 0
EntersOwn m before after table rec write v =
    EntersThen m before table rec write (λ entered. ReplacesNewest m entered after rec v)

abbrev pub FailsEnterOwn : {D : Type 0} → Meaning D → Pool D FireLinks → Pool D FireLinks → Table → RecId → Write
    → Version → SpaceFault → Type 0
FailsEnterOwn m before after table rec write v fault = FailsThen m before after table rec write
    (λ entered given. FailsReplacing m entered after rec v given) fault

-- a record is made: a place is taken, the entries are laid for it, and then its first version is put there
pub record LaysNew {D : Type 0} (m : Meaning D) (before after : Pool D FireLinks) (table : Table) (write : Write)
    (v : Version) : Type 0 where
  pub at : RecId
  pub placed : Pool D FireLinks
  pub takes : TakesPlace m before placed table.pointer.0 at
  pub makes : EntersFirst m placed after table at write v

-- a dead transaction's newest version is taken out, the entries are laid, and then the version is pushed
pub record LaysOverDead {D : Type 0} (m : Meaning D) (before after : Pool D FireLinks) (table : Table) (rec : RecId)
    (write : Write) (v : Version) : Type 0 where
  pub cleared : Pool D FireLinks
  pub takes : TakesNewestOut m before cleared rec
  pub pushes : EntersOver m cleared after table rec write v

-- a version comes into the record of its key, on its way
abbrev pub Lays : {D : Type 0} → Meaning D → Pool D FireLinks → Pool D FireLinks → Table → Way → Write → Version
    → Type 0
Lays m before after table ways.Make write v = LaysNew m before after table write v
Lays m before after table (ways.Push rec) write v = EntersOver m before after table rec write v
Lays m before after table (ways.PushOverDead rec) write v = LaysOverDead m before after table rec write v
Lays m before after table (ways.Replace rec) write v = EntersOwn m before after table rec write v

-- the record that a version came into: the one that was made, or the one that was there
abbrev pub laid_in : {D : Type 0} (m : Meaning D) (before after : Pool D FireLinks) (table : Table) (way : Way)
    (write : Write) (v : Version) → Lays m before after table way write v → RecId
laid_in m before after table ways.Make write v lays = lays.at
laid_in m before after table (ways.Push rec) write v lays = rec
laid_in m before after table (ways.PushOverDead rec) write v lays = rec
laid_in m before after table (ways.Replace rec) write v lays = rec

-- A version comes into this record, on its way.
pub record LaysIn {D : Type 0} (m : Meaning D) (before after : Pool D FireLinks) (table : Table) (way : Way)
    (write : Write) (v : Version) (rec : RecId) : Type 0 where
  pub lays : Lays m before after table way write v
  pub at : rec ≡ laid_in m before after table way write v lays

-- the record, where what was to be done in it is done
abbrev pub told_of : RecId → Result (Unit {0}) SpaceFault → Result RecId SpaceFault
told_of rec (Ok x) = Ok rec
told_of rec (Err fault) = Err fault

-- a record is not made: no place is taken, or one is, which holds nothing, though entries may name it
pub data FailsNew {D : Type 0} (m : Meaning D) (before after : Pool D FireLinks) (table : Table) (write : Write)
    (v : Version) (fault : SpaceFault) : Type 0 where
  no_place : FailsPlace m before after table.pointer.0 fault → FailsNew m before after table write v fault
  no_first : (at : RecId) (placed : Pool D FireLinks) → TakesPlace m before placed table.pointer.0 at
      → FailsEnterFirst m placed after table at write v fault → FailsNew m before after table write v fault

-- a dead transaction's version is not taken out, or it is, and then no version is pushed
pub data FailsOverDead {D : Type 0} (m : Meaning D) (before after : Pool D FireLinks) (table : Table) (rec : RecId)
    (write : Write) (v : Version) (fault : SpaceFault) : Type 0 where
  not_cleared : FailsTakingOut m before after rec fault → FailsOverDead m before after table rec write v fault
  not_pushed : (cleared : Pool D FireLinks) → TakesNewestOut m before cleared rec
      → FailsEnterOver m cleared after table rec write v fault
      → FailsOverDead m before after table rec write v fault

-- a version does not come into the record of its key
abbrev pub FailsLay : {D : Type 0} → Meaning D → Pool D FireLinks → Pool D FireLinks → Table → Way → Write → Version
    → SpaceFault → Type 0
FailsLay m before after table ways.Make write v fault = FailsNew m before after table write v fault
FailsLay m before after table (ways.Push rec) write v fault = FailsEnterOver m before after table rec write v fault
FailsLay m before after table (ways.PushOverDead rec) write v fault =
    FailsOverDead m before after table rec write v fault
FailsLay m before after table (ways.Replace rec) write v fault = FailsEnterOwn m before after table rec write v fault
