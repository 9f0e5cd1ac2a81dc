-- The keys of a table are noted before one of its rows is asked for or written: how the call reads, and what the engine
-- is to a keeper of records afterwards.
use Rattle.std.specs.Prelude.{◌≡◌, ◌⊎◌, ℕ, Option, None}
use Rattle.mg_base.specs.Disk.{Meaning}
use Rattle.mg_core.specs.Cores.{Continues, IsCore}
use Rattle.mg_core.specs.Noting.{MakesDirectory, WhyNotMade}
use Rattle.mg_core.specs.Reading.{FailsReading}
use Rattle.mg_core.specs.declared.parts.Core.{Core}
use Rattle.mg_engine_change_laws.specs.faults.Asked.{AsksNoWrite}
use Rattle.mg_engine_change_laws.specs.faults.Told.{TellsFaults}
use Rattle.mg_engine_meaning_laws.specs.Meaning.{Places, means}
use Rattle.mg_model.specs.declared.refusal.Refusal.{Refusal}
use Rattle.mg_model.specs.declared.table.Table.{Table}
use Rattle.mg_no_damage_laws.specs.FewPages.{RoomStands}
use Rattle.mg_no_damage_laws.specs.Stands.{DamageStands}
use Rattle.mg_records.specs.Crashing.{LeavesQuietly}
use Rattle.mg_records.specs.Keeping.{Reads}
use Rattle.mg_records.specs.Sessions.{SessionsStay}

-- The table's directory is made for an active transaction, or none is; or nothing has happened.
abbrev pub NotesKeys : {D : Type 0} → Meaning D → Core D → Core D → ℕ → Table → Type 0
NotesKeys m old new t table = (new ≡ old) ⊎ (Continues old t × MakesDirectory m old new table)

-- The table's rows were not read for it: the fault is counted.
pub record FailsNoting {D : Type 0} (m : Meaning D) (old new : Core D) (t : ℕ) (table : Table) (refusal : Refusal)
    : Type 0 where
  pub continues : Continues old t
  pub fails : FailsReading m old new (WhyNotMade m old table) refusal

-- The keys of a table were noted, and from there on this has happened.
pub record HasNoted {D : Type 0} (m : Meaning D) (old : Core D) (t : ℕ) (table : Table) (Goes : Core D → Type 0)
    : Type 0 where
  pub noted : Core D
  pub core : IsCore m noted
  pub notes : NotesKeys m old noted t table
  pub goes : Goes noted

-- ---- what it is to a keeper of records

-- A call that only reads: it stands for what it stood for, each fault of the disk is told, no damage is met, no page is
-- taken, and no page write asked for.
pub record OnlyLooks {D P : Type 0} (m : Meaning D) (places : Places P) (old new : Core D) (refusal : Option Refusal)
    : Type 0 where
  pub reads : Reads (means m places) old new refusal None
  pub crash : LeavesQuietly (means m places) old new
  pub sessions : SessionsStay (means m places) old new None None
  pub told : TellsFaults m old new refusal
  pub undamaged : DamageStands m old new
  pub room : RoomStands m old new refusal 0
  pub unwritten : AsksNoWrite m old new
