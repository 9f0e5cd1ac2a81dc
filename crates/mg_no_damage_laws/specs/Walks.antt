-- A walk behind whose place rows are to come meets no damage.
use Rattle.std.specs.Prelude.{◌<◌, Option, None, Some, Result}
use Rattle.mg_base.specs.Disk.{Meaning}
use Rattle.mg_base.specs.declared.numbers.TxNo.{TxNo}
use Rattle.mg_model.specs.Changes.{KeyedRows}
use Rattle.mg_model.specs.declared.refusal.Refusal.{Refusal}
use Rattle.mg_model.specs.declared.table.Table.{Table}
use Rattle.mg_records.specs.Keeping.{MeetsNoDamage}
use Rattle.mg_records.specs.declared.found.Found.{Found}
use Rattle.mg_core.specs.Scanning.{Scans}
use Rattle.mg_core.specs.declared.parts.Core.{Core}
use Rattle.mg_core.specs.declared.scanning.Place.{Place}
use Rattle.mg_engine_meaning_laws.specs.Reads.{AreRanked}
use Rattle.mg_engine_meaning_laws.specs.Meaning.{Places, means}

-- the slot of a place has two bytes, if there is one
abbrev pub IsShortPlace : Option Place → Type 0
IsShortPlace None = Unit {0}
IsShortPlace (Some place) = place.rec.slot < 65536

-- a walk to which rows are to come visits the next record
abbrev pub VisitsMeetNone : (D : Type 0) → Meaning D → Type 0
VisitsMeetNone D m = (places : Places Place) (old new : Core D) (t : TxNo) (table : Table) (after : Option Place)
    (rows : KeyedRows) (result : Result (Option (Found Place)) Refusal) → AreRanked places → IsShortPlace after
    → (means m places).to_come old t.0 table after rows → Scans m old new t table after result
    → MeetsNoDamage (means m places) old new
