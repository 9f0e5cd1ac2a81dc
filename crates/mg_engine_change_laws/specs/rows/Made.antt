-- A write of a row that is made, as a keeper of records owes it.
use Rattle.std.specs.Prelude.{◌≡◌, None, Some}
use Rattle.mg_base.specs.Disk.{Meaning}
use Rattle.mg_base.specs.declared.numbers.TxNo.{TxNo}
use Rattle.mg_model.specs.declared.answer.Answer.TheVariants.{Fine}
use Rattle.mg_model.specs.declared.table.Table.{Table}
use Rattle.mg_records.specs.Writing.{FitsShape, event_of}
use Rattle.mg_records.specs.declared.write.Write.{Write}
use Rattle.mg_works.specs.Works.{given_to}
use Rattle.mg_core.specs.declared.parts.Core.{Core}
use Rattle.mg_core.specs.Cores.{IsCore}
use Rattle.mg_core.specs.Writing.{Writes}
use Rattle.mg_engine_meaning_laws.specs.Frames.{GivesEvent}
use Rattle.mg_engine_meaning_laws.specs.Meaning.{Places}
use Rattle.mg_engine_change_laws.specs.rows.Laid.{HasNoted}

-- on each way it gives the event
abbrev pub MadeRowsGive : (D P : Type 0) → Meaning D → Type 0
MadeRowsGive D P m = (places : Places P) (old new : Core D) (t : TxNo) (table : Table) (write : Write) → IsCore m old
    → given_to old.works t.0 table.name ≡ Some table → HasNoted old.works t.0 table → FitsShape table.shape write
    → Writes m old new t table write
    → GivesEvent m places old new (event_of t table.name write) Fine None None (Some t.0) None None
