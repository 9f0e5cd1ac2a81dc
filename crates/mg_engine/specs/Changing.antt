-- A row is written once the keys of its table are noted: how the call goes, and what the engine is to a keeper of records
-- afterwards.
use Rattle.std.specs.Prelude.{◌≡◌, ◌⊎◌, None, Some, Result, Ok, Err}
use Rattle.mg_base.specs.Disk.{Meaning}
use Rattle.mg_base.specs.declared.numbers.TxNo.{TxNo}
use Rattle.mg_core.specs.Cores.{IsCore}
use Rattle.mg_core.specs.Noting.{WhyNotMade}
use Rattle.mg_core.specs.declared.parts.Core.{Core}
use Rattle.mg_core.specs.declared.scanning.Place.{Place}
use Rattle.mg_engine.specs.Noting.{HasNoted}
use Rattle.mg_engine_change_laws.specs.faults.Told.{TellsFaults}
use Rattle.mg_engine_change_laws.specs.rows.Unread.{LeavesUnread}
use Rattle.mg_engine_meaning_laws.specs.Counts.{HasCounts}
use Rattle.mg_engine_meaning_laws.specs.Frames.{GivesEvent}
use Rattle.mg_engine_meaning_laws.specs.Meaning.{Places}
use Rattle.mg_model.specs.declared.refusal.Refusal.{Refusal}
use Rattle.mg_model.specs.declared.table.Table.{Table}
use Rattle.mg_no_damage_laws.specs.FewPages.{RoomStands}
use Rattle.mg_no_damage_laws.specs.Stands.{DamageStands}
use Rattle.mg_records.specs.Adding.{fine_or}
use Rattle.mg_records.specs.Keeping.{refusal_in}
use Rattle.mg_records.specs.Room.{pages_of_row}
use Rattle.mg_records.specs.Writing.{FitsShape, event_of}
use Rattle.mg_records.specs.declared.write.Write.{Write}
use Rattle.mg_taking_back.specs.Noting.{FailsNoted, WritesNoted}
use Rattle.mg_works.specs.Works.{AreApart, MayBeGiven, given_to}

-- The keys of the table were noted and then the row was written, or not; or the table's rows were not read for that.
abbrev pub WritesFirst : {D : Type 0} → Meaning D → Core D → Core D → TxNo → Table → Write
    → Result (Unit {0}) Refusal → Type 0
WritesFirst m old new t table write (Ok x) = HasNoted m old t.0 table (λ noted. WritesNoted m noted new t table write)
WritesFirst m old new t table write (Err refusal) = LeavesUnread m old new t.0 (WhyNotMade m old table) refusal
    ⊎ HasNoted m old t.0 table (λ noted. FailsNoted m noted new t table write refusal)

-- The write gives its event: each fault of the disk is told, no damage is met, few pages are taken, and each session has
-- one active transaction at most.
pub record GivesWrite {D : Type 0} (m : Meaning D) (places : Places Place) (old new : Core D) (t : TxNo) (table : Table)
    (write : Write) (result : Result (Unit {0}) Refusal) : Type 0 where
  pub gives : GivesEvent m places old new (event_of t table.name write) (fine_or result) (refusal_in result) None
      (Some t.0) None None
  pub told : TellsFaults m old new (refusal_in result)
  pub undamaged : DamageStands m old new
  pub room : RoomStands m old new (refusal_in result) pages_of_row
  pub apart : AreApart new.works

-- so does each write of a row that fits a table which was given
abbrev pub ChangesGoOn : (D : Type 0) → Meaning D → Type 0
ChangesGoOn D m = (places : Places Place) (old new : Core D) (t : TxNo) (table : Table) (write : Write)
    (result : Result (Unit {0}) Refusal) → IsCore m old → HasCounts old → AreApart old.works → MayBeGiven table
    → given_to old.works t.0 table.name ≡ Some table → FitsShape table.shape write
    → WritesFirst m old new t table write result
    → GivesWrite m places old new t table write result
