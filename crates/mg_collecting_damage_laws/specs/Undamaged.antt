-- A collection meets no damage, and wants no page.
use Rattle.std.specs.Prelude.{◌≡◌, Bool, Some, Result}
use Rattle.mg_base.specs.Disk.{Meaning}
use Rattle.mg_base.specs.declared.numbers.RecId.{RecId}
use Rattle.mg_base.specs.declared.numbers.TxNo.{TxNo}
use Rattle.mg_core.specs.Cores.{IsCore}
use Rattle.mg_core.specs.declared.parts.Core.{Core}
use Rattle.mg_core_collecting.specs.Every.{CollectsEvery}
use Rattle.mg_core_collecting.specs.Places.{CollectsPlace}
use Rattle.mg_model.specs.declared.refusal.Refusal.{Refusal}
use Rattle.mg_model.specs.declared.table.Table.{Table}
use Rattle.mg_engine_meaning_laws.specs.Standings.{StandsFor}
use Rattle.mg_model.specs.History.{Entries}
use Rattle.mg_model.specs.declared.opening.Opening.{Opening}
use Rattle.mg_no_damage_laws.specs.Stands.{DamageStands}
use Rattle.mg_records.specs.Asking.{TakesNoPage}
use Rattle.mg_records.specs.Keeping.{refusal_in}
use Rattle.mg_works.specs.Works.{given_to}

-- the record at a place of a table that was given to a transaction is collected, or is not: no page was found damaged,
-- where the engine stood for a history
abbrev pub CollectionsMeetNone : (D : Type 0) → Meaning D → Type 0
CollectionsMeetNone D m = (old new : Core D) (t : TxNo) (table : Table) (rec : RecId) (result : Result Bool Refusal)
    → IsCore m old → given_to old.works t.0 table.name ≡ Some table → CollectsPlace m old new t table rec result
    → DamageStands m old new

-- nor is it refused for want of pages
abbrev pub CollectionsMissNone : (D : Type 0) → Meaning D → Type 0
CollectionsMissNone D m = (old new : Core D) (t : TxNo) (table : Table) (rec : RecId) (result : Result Bool Refusal)
    → IsCore m old → given_to old.works t.0 table.name ≡ Some table → CollectsPlace m old new t table rec result
    → (o : Opening) (h : Entries) → StandsFor m old o h → TakesNoPage (refusal_in result)

-- every record of the committed tables is collected, or not all are: no page was found damaged either
abbrev pub EveryMeetsNone : (D : Type 0) → Meaning D → Type 0
EveryMeetsNone D m = (old new : Core D) (result : Result (Unit {0}) Refusal) → IsCore m old
    → CollectsEvery m old new result → DamageStands m old new

-- and it is not refused for want of pages
abbrev pub EveryMissesNone : (D : Type 0) → Meaning D → Type 0
EveryMissesNone D m = (old new : Core D) (result : Result (Unit {0}) Refusal) → IsCore m old
    → CollectsEvery m old new result → (o : Opening) (h : Entries) → StandsFor m old o h
    → TakesNoPage (refusal_in result)
