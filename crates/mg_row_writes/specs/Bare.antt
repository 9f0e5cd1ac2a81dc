-- A version comes into the record of its key, in a table without indexes: no entry is laid.
use Rattle.std.specs.Prelude.{◌≡◌, ℕ, []}
use Rattle.mg_base.specs.Disk.{Meaning}
use Rattle.mg_base.specs.declared.numbers.RecId.{RecId}
use Rattle.mg_model.specs.declared.table.Table.{Table}
use Rattle.mg_pool.specs.declared.pool.Pool.{Pool}
use Rattle.mg_space.specs.declared.fault.SpaceFault.{SpaceFault}
use Rattle.mg_space.specs.declared.links.FireLinks.{FireLinks}
use Rattle.mg_version.specs.declared.cell.Version.{Version}
use Rattle.mg_row_writes.specs.Changing.{FailsFirst, FailsOver, FailsPlace, FailsReplacing, FailsTakingOut, MakesFirst, PushesOver, ReplacesNewest, TakesNewestOut, TakesPlace}
use Rattle.mg_row_writes.specs.declared.before.Way.{Way}
use Rattle.mg_row_writes.specs.declared.before.Way.TheVariants as ways

-- a table has no index
abbrev pub IsBare : Table → Type 0
IsBare table = table.indexes ≡ []

-- a record is made: a place is taken, and then its first version is put there
pub record BareNew {D : Type 0} (m : Meaning D) (before after : Pool D FireLinks) (owner : ℕ) (v : Version)
    : Type 0 where
  pub at : RecId
  pub placed : Pool D FireLinks
  pub takes : TakesPlace m before placed owner at
  pub makes : MakesFirst m placed after owner at v

-- a dead transaction's newest version is taken out, and then the version is pushed
pub record BareOverDead {D : Type 0} (m : Meaning D) (before after : Pool D FireLinks) (rec : RecId) (v : Version)
    : Type 0 where
  pub cleared : Pool D FireLinks
  pub takes : TakesNewestOut m before cleared rec
  pub pushes : PushesOver m cleared after rec v

-- a version comes into the record of its key, on its way
abbrev pub BareLays : {D : Type 0} → Meaning D → Pool D FireLinks → Pool D FireLinks → ℕ → Way → Version → Type 0
BareLays m before after owner ways.Make v = BareNew m before after owner v
BareLays m before after owner (ways.Push rec) v = PushesOver m before after rec v
BareLays m before after owner (ways.PushOverDead rec) v = BareOverDead m before after rec v
BareLays m before after owner (ways.Replace rec) v = ReplacesNewest m before after rec v

-- the record that it came into
abbrev pub bare_in : {D : Type 0} (m : Meaning D) (before after : Pool D FireLinks) (owner : ℕ) (way : Way)
    (v : Version) → BareLays m before after owner way v → RecId
bare_in m before after owner ways.Make v lays = lays.at
bare_in m before after owner (ways.Push rec) v lays = rec
bare_in m before after owner (ways.PushOverDead rec) v lays = rec
bare_in m before after owner (ways.Replace rec) v lays = rec

-- a record is not made: no place is taken, or one is, which holds nothing
pub data BareFailsNew {D : Type 0} (m : Meaning D) (before after : Pool D FireLinks) (owner : ℕ) (v : Version)
    (fault : SpaceFault) : Type 0 where
  no_place_there : FailsPlace m before after owner fault → BareFailsNew m before after owner v fault
  no_first_there : (at : RecId) (placed : Pool D FireLinks) → TakesPlace m before placed owner at
      → FailsFirst m placed after owner at v fault → BareFailsNew m before after owner v fault

-- a dead transaction's version is not taken out, or it is, and then no version is pushed
pub data BareFailsOverDead {D : Type 0} (m : Meaning D) (before after : Pool D FireLinks) (rec : RecId) (v : Version)
    (fault : SpaceFault) : Type 0 where
  not_out : FailsTakingOut m before after rec fault → BareFailsOverDead m before after rec v fault
  not_over : (cleared : Pool D FireLinks) → TakesNewestOut m before cleared rec
      → FailsOver m cleared after rec v fault → BareFailsOverDead m before after rec v fault

-- a version does not come into the record of its key
abbrev pub BareFails : {D : Type 0} → Meaning D → Pool D FireLinks → Pool D FireLinks → ℕ → Way → Version
    → SpaceFault → Type 0
BareFails m before after owner ways.Make v fault = BareFailsNew m before after owner v fault
BareFails m before after owner (ways.Push rec) v fault = FailsOver m before after rec v fault
BareFails m before after owner (ways.PushOverDead rec) v fault = BareFailsOverDead m before after rec v fault
BareFails m before after owner (ways.Replace rec) v fault = FailsReplacing m before after rec v fault
