-- A write that is refused before its version is laid, as a keeper of records owes it.
use Rattle.std.specs.Prelude.{◌≡◌, ◌⊎◌, ℕ, Bool, Option, None, Some}
use Rattle.mg_base.specs.Disk.{Meaning}
use Rattle.mg_base.specs.declared.numbers.RecId.{RecId}
use Rattle.mg_base.specs.declared.numbers.TxNo.{TxNo}
use Rattle.mg_model.specs.declared.answer.Answer.TheVariants.{No}
use Rattle.mg_model.specs.declared.event.Event.{Event}
use Rattle.mg_model.specs.declared.refusal.Refusal.{Refusal}
use Rattle.mg_model.specs.declared.table.Table.{Table}
use Rattle.mg_records.specs.Writing.{event_of}
use Rattle.mg_records.specs.declared.write.Write.{Write}
use Rattle.mg_row_writes.specs.Storing.{written_at}
use Rattle.mg_row_writes.specs.declared.before.Before.{Before}
use Rattle.mg_version.specs.declared.cell.Version.{Version}
use Rattle.mg_works.specs.Works.{given_to}
use Rattle.mg_core.specs.declared.parts.Core.{Core}
use Rattle.mg_core.specs.Cores.{IsCore}
use Rattle.mg_core.specs.Putting.{FailsLaid, HasBefore}
use Rattle.mg_core.specs.Writing.{FailsWrite, IsFree}
use Rattle.mg_engine_meaning_laws.specs.Frames.{GivesEvent}
use Rattle.mg_engine_meaning_laws.specs.Meaning.{Places}
use Rattle.mg_engine_change_laws.specs.memory.Notes.{AreCounts}

-- Nobody was in the way, the version was made, and what was before it was read.
pub record IsReady {D : Type 0} (m : Meaning D) (old read : Core D) (t : TxNo) (table : Table) (write : Write)
    (before : Before) (version : Version) : Type 0 where
  pub free : Core D
  pub wait : Bool
  pub rec : Option RecId
  pub is_free : IsFree m old free t table write wait rec
  pub has : HasBefore m free read t table write rec before version

-- And then it was not laid.
pub record IsNotLaid {D : Type 0} (m : Meaning D) (old new : Core D) (t : TxNo) (table : Table) (write : Write)
    (refusal : Refusal) : Type 0 where
  pub read : Core D
  pub before : Before
  pub version : Version
  pub ready : IsReady m old read t table write before version
  pub fails : FailsLaid m read new t.0 table write (written_at table write) before version refusal

-- A write is refused, and gives its event with the refusal; what is kept of transactions is as it was.
pub record RefusesStill {D P : Type 0} (m : Meaning D) (places : Places P) (old new : Core D) (event : Event)
    (refusal : Refusal) (t : ℕ) : Type 0 where
  pub gives : GivesEvent m places old new event (No refusal) (Some refusal) None (Some t) None None
  pub works : new.works ≡ old.works

-- it is refused so, or the version was not laid
abbrev pub RefusalsGoOn : (D P : Type 0) → Meaning D → Type 0
RefusalsGoOn D P m = (places : Places P) (old new : Core D) (t : TxNo) (table : Table) (write : Write)
    (refusal : Refusal) → IsCore m old → AreCounts old → given_to old.works t.0 table.name ≡ Some table
    → FailsWrite m old new t table write refusal
    → RefusesStill m places old new (event_of t table.name write) refusal t.0
    ⊎ IsNotLaid m old new t table write refusal
