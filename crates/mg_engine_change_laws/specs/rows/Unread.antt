-- A reading that a write wants before it begins has failed.
use Rattle.std.specs.Prelude.{ℕ}
use Rattle.mg_base.specs.Disk.{Meaning}
use Rattle.mg_base.specs.declared.numbers.TxNo.{TxNo}
use Rattle.mg_core.specs.Cores.{Continues, IsCore}
use Rattle.mg_core.specs.Events.{EndsWait}
use Rattle.mg_core.specs.Noting.{WhyNotMade}
use Rattle.mg_core.specs.Reading.{FailsReading}
use Rattle.mg_core.specs.declared.parts.Core.{Core}
use Rattle.mg_image.specs.Form.{Pages}
use Rattle.mg_model.specs.declared.refusal.Refusal.{Refusal}
use Rattle.mg_model.specs.declared.table.Table.{Table}
use Rattle.mg_pool.specs.declared.pool.Pool.{Pool}
use Rattle.mg_records.specs.Writing.{event_of}
use Rattle.mg_records.specs.declared.write.Write.{Write}
use Rattle.mg_space.specs.declared.fault.SpaceFault.{SpaceFault}
use Rattle.mg_space.specs.declared.links.FireLinks.{FireLinks}
use Rattle.mg_engine_change_laws.specs.memory.Notes.{AreCounts}
use Rattle.mg_engine_change_laws.specs.rows.Refusals.{RefusesStill}
use Rattle.mg_engine_meaning_laws.specs.Meaning.{Places}

-- A reading for a transaction failed, and then its wait ended; nothing else has happened.
pub record LeavesUnread {D : Type 0} (m : Meaning D) (old new : Core D) (t : ℕ)
    (why : Pool D FireLinks → Pages → SpaceFault → Type 0) (refusal : Refusal) : Type 0 where
  pub continues : Continues old t
  pub read : Core D
  pub fails : FailsReading m old read why refusal
  pub ends : EndsWait read new t

-- so a write gives its event with the refusal, which is one from outside the machine, where the keys of its table were
-- not read
abbrev pub UnreadWritesGive : (D P : Type 0) → Meaning D → Type 0
UnreadWritesGive D P m = (places : Places P) (old new : Core D) (t : TxNo) (table : Table) (write : Write)
    (refusal : Refusal) → IsCore m old → AreCounts old → LeavesUnread m old new t.0 (WhyNotMade m old table) refusal
    → RefusesStill m places old new (event_of t table.name write) refusal t.0
