-- A write of a row into a table that is kept first, as a keeper of records owes it.
use Rattle.std.specs.Prelude.{◌≡◌, None, Some}
use Rattle.mg_base.specs.Disk.{Meaning}
use Rattle.mg_base.specs.declared.numbers.TxNo.{TxNo}
use Rattle.mg_model.specs.declared.answer.Answer.TheVariants.{Fine, No}
use Rattle.mg_model.specs.declared.refusal.Refusal.{Refusal}
use Rattle.mg_model.specs.declared.table.Table.{Table}
use Rattle.mg_records.specs.Writing.{FitsShape, event_of}
use Rattle.mg_records.specs.declared.write.Write.{Write}
use Rattle.mg_row_writes.specs.Storing.{written_at}
use Rattle.mg_works.specs.Works.{AreApart, MayBeGiven, given_to}
use Rattle.mg_core.specs.declared.parts.Core.{Core}
use Rattle.mg_core.specs.Cores.{IsCore}
use Rattle.mg_engine_meaning_laws.specs.Frames.{GivesEvent}
use Rattle.mg_engine_meaning_laws.specs.Meaning.{Places}
use Rattle.mg_engine_change_laws.specs.rows.Laid.{HasNoted}
use Rattle.mg_engine_change_laws.specs.memory.Notes.{AreCounts}
use Rattle.mg_engine_change_laws.specs.rows.Refusals.{IsNotLaid}
use Rattle.mg_taking_back.specs.Noting.{FailsNoted, WritesNoted}
use Rattle.mg_engine_change_laws.specs.memory.Retracted.{works_retracted}

-- a write that is refused as its version is laid gives the event with the refusal; of what is kept of the transaction
-- the commit is no longer asked for
abbrev pub NotLaidGives : (D P : Type 0) → Meaning D → Type 0
NotLaidGives D P m = (places : Places P) (old new : Core D) (t : TxNo) (table : Table) (write : Write)
    (refusal : Refusal) → IsCore m old → AreCounts old → given_to old.works t.0 table.name ≡ Some table
    → HasNoted old.works t.0 table → FitsShape table.shape write → (failed : IsNotLaid m old new t table write refusal)
    → GivesEvent m places old new (event_of t table.name write) (No refusal) (Some refusal) None (Some t.0) None None
    × (new.works ≡ works_retracted t.0 table.pointer.0 (written_at table write) failed.before.was old.works)

-- a row that is written gives its event
abbrev pub NotedWritesGive : (D P : Type 0) → Meaning D → Type 0
NotedWritesGive D P m = (places : Places P) (old new : Core D) (t : TxNo) (table : Table) (write : Write)
    → IsCore m old → given_to old.works t.0 table.name ≡ Some table → FitsShape table.shape write
    → WritesNoted m old new t table write
    → GivesEvent m places old new (event_of t table.name write) Fine None None (Some t.0) None None

-- and one that is not gives it with the refusal
abbrev pub NotedFailsGive : (D P : Type 0) → Meaning D → Type 0
NotedFailsGive D P m = (places : Places P) (old new : Core D) (t : TxNo) (table : Table) (write : Write)
    (refusal : Refusal) → IsCore m old → AreCounts old → given_to old.works t.0 table.name ≡ Some table
    → FitsShape table.shape write → FailsNoted m old new t table write refusal
    → GivesEvent m places old new (event_of t table.name write) (No refusal) (Some refusal) None (Some t.0) None None

-- each session has one active transaction at most, as it was
abbrev pub NotedWritesApart : (D : Type 0) → Meaning D → Type 0
NotedWritesApart D m = (old new : Core D) (t : TxNo) (table : Table) (write : Write) → IsCore m old
    → given_to old.works t.0 table.name ≡ Some table → MayBeGiven table → AreApart old.works → WritesNoted m old new t table write → AreApart new.works

abbrev pub NotedFailsApart : (D P : Type 0) → Meaning D → Type 0
NotedFailsApart D P m = (places : Places P) (old new : Core D) (t : TxNo) (table : Table) (write : Write)
    (refusal : Refusal) → IsCore m old → AreCounts old → given_to old.works t.0 table.name ≡ Some table
    → FitsShape table.shape write → MayBeGiven table → AreApart old.works
    → FailsNoted m old new t table write refusal → AreApart new.works
