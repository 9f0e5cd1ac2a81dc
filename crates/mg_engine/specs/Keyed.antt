-- The row with a key: how the call reads it, and what the engine is to a keeper of records afterwards.
use Rattle.std.specs.Prelude.{◌≡◌, ◌⊎◌, Option, None, Some, Result, Ok, Err, IfOk, OnOk}
use Rattle.mg_base.specs.Disk.{Meaning}
use Rattle.mg_base.specs.declared.numbers.TxNo.{TxNo}
use Rattle.mg_core.specs.declared.parts.Core.{Core}
use Rattle.mg_core.specs.declared.scanning.Place.{Place}
use Rattle.mg_core.specs.Cores.{Continues, RefusesCall}
use Rattle.mg_core.specs.Noting.{MakesDirectory}
use Rattle.mg_core.specs.Reading.{FailsReading}
use Rattle.mg_core.specs.Writing.{ReadsKnown, WhyOfKnown}
use Rattle.mg_engine.specs.Noting.{FailsNoting, HasNoted, OnlyLooks}
use Rattle.mg_engine_change_laws.specs.faults.Asked.{AsksNoWrite}
use Rattle.mg_engine_change_laws.specs.faults.Told.{TellsFaults}
use Rattle.mg_engine_meaning_laws.specs.Counts.{HasCounts}
use Rattle.mg_engine_meaning_laws.specs.Meaning.{Places, means}
use Rattle.mg_model.specs.declared.refusal.Refusal.{Refusal}
use Rattle.mg_model.specs.declared.table.Table.{Table}
use Rattle.mg_model.specs.Changes.{Cells}
use Rattle.mg_no_damage_laws.specs.FewPages.{RoomStands}
use Rattle.mg_no_damage_laws.specs.Stands.{DamageStands}
use Rattle.mg_records.specs.Adding.{AnswersAll}
use Rattle.mg_records.specs.Crashing.{LeavesQuietly}
use Rattle.mg_records.specs.Keeping.{Reads, refusal_in}
use Rattle.mg_records.specs.Sessions.{SessionsStay}
use Rattle.mg_row_writes.specs.declared.finding.RowAt.{RowAt}
use Rattle.mg_tending.specs.Keyed.{HaveTheirKeys, IsSeenAt}
use Rattle.mg_value.specs.declared.value.Value.{Value}
use Rattle.mg_works.specs.Works.{given_to}

-- ---- the call

-- Pages were read: this is the row that the transaction sees in the record that speaks for the key.
pub record ReadsKey {D : Type 0} (m : Meaning D) (old new : Core D) (t : TxNo) (table : Table) (key : Value)
    (row : Option Cells) : Type 0 where
  pub continues : Continues old t.0
  pub found : RowAt
  pub reads : ReadsKnown m old new t table key found
  pub is : row ≡ found.row

-- It was not read: the fault is counted.
pub record FailsKey {D : Type 0} (m : Meaning D) (old new : Core D) (t : TxNo) (table : Table) (key : Value)
    (refusal : Refusal) : Type 0 where
  pub continues : Continues old t.0
  pub fails : FailsReading m old new (WhyOfKnown m old t table key) refusal

-- the row with a key is read for a transaction, or the call is refused
abbrev pub AnswersKey : {D : Type 0} → Meaning D → Core D → Core D → TxNo → Table → Value
    → Result (Option Cells) Refusal → Type 0
AnswersKey m old new t table key (Ok row) = ReadsKey m old new t table key row
AnswersKey m old new t table key (Err refusal) = (RefusesCall old t.0 refusal × (new ≡ old))
    ⊎ FailsKey m old new t table key refusal

-- The keys of the table were noted first, or its rows were not read for that.
abbrev pub AnswersNoted : {D : Type 0} → Meaning D → Core D → Core D → TxNo → Table → Value
    → Result (Option Cells) Refusal → Type 0
AnswersNoted m old new t table key (Ok row) =
    HasNoted m old t.0 table (λ noted. AnswersKey m noted new t table key (Ok row))
AnswersNoted m old new t table key (Err refusal) = FailsNoting m old new t.0 table refusal
    ⊎ HasNoted m old t.0 table (λ noted. AnswersKey m noted new t table key (Err refusal))

-- ---- what it is to a keeper of records

-- The row is the one that the history tells, and nothing else comes of the call.
pub record GivesRow {D : Type 0} (m : Meaning D) (places : Places Place) (old new : Core D) (t : TxNo) (table : Table)
    (key : Value) (result : Result (Option Cells) Refusal) : Type 0 where
  pub finds : IfOk result (IsSeenAt (means m places) old t.0 table.name key)
  pub keyed : OnOk result (HaveTheirKeys (means m places) old t.0 table)
  pub answers : AnswersAll (means m places) old t.0 result
  pub reads : Reads (means m places) old new (refusal_in result) None
  pub crash : LeavesQuietly (means m places) old new
  pub sessions : SessionsStay (means m places) old new None None
  -- each fault of the disk is told, no damage is met, no page is taken, and no page write asked for
  pub told : TellsFaults m old new (refusal_in result)
  pub undamaged : DamageStands m old new
  pub room : RoomStands m old new (refusal_in result) 0
  pub unwritten : AsksNoWrite m old new

-- the directory of a table that was given to an active transaction is made: nothing has happened but a reading
abbrev pub NotesGoOn : (D : Type 0) → Meaning D → Type 0
NotesGoOn D m = (places : Places Place) (old new : Core D) (t : TxNo) (table : Table)
    → given_to old.works t.0 table.name ≡ Some table → Continues old t.0 → MakesDirectory m old new table
    → OnlyLooks m places old new None

-- so does each call that asks for a row of a table that was given
abbrev pub KeysGoOn : (D : Type 0) → Meaning D → Type 0
KeysGoOn D m = (places : Places Place) (old new : Core D) (t : TxNo) (table : Table) (key : Value)
    (result : Result (Option Cells) Refusal) → HasCounts old → given_to old.works t.0 table.name ≡ Some table
    → AnswersNoted m old new t table key result → GivesRow m places old new t table key result
