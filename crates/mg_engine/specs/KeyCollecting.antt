-- The record of a key is collected: how the call finds and collects it, and what the engine is to a keeper of records
-- afterwards.
use Rattle.std.specs.Prelude.{◌≡◌, ◌⊎◌, Bool, true, false, Option, None, Some, Result, Ok, Err, IfErr, IfOk}
use Rattle.mg_base.specs.Disk.{Meaning}
use Rattle.mg_base.specs.declared.numbers.RecId.{RecId}
use Rattle.mg_base.specs.declared.numbers.TxNo.{TxNo}
use Rattle.mg_core.specs.Cores.{Continues, IsCore, RefusesCall}
use Rattle.mg_core.specs.Writing.{ReadsKnown}
use Rattle.mg_core.specs.declared.parts.Core.{Core}
use Rattle.mg_core_collecting.specs.Places.{CollectsPlace}
use Rattle.mg_engine_change_laws.specs.faults.Told.{TellsFaults}
use Rattle.mg_engine_collecting_laws.specs.Versions.{collecting}
use Rattle.mg_engine_meaning_laws.specs.Counts.{HasCounts}
use Rattle.mg_engine_meaning_laws.specs.Meaning.{means}
use Rattle.mg_engine_meaning_laws.specs.Standings.{StandsFor}
use Rattle.mg_model.specs.History.{Entries}
use Rattle.mg_model.specs.Legal.{is_outer}
use Rattle.mg_model.specs.declared.answer.Answer.TheVariants.{No}
use Rattle.mg_model.specs.declared.opening.Opening.{Opening}
use Rattle.mg_model.specs.declared.refusal.Refusal.{Refusal}
use Rattle.mg_model.specs.declared.table.Table.{Table}
use Rattle.mg_no_damage_laws.specs.FewPages.{RoomStands}
use Rattle.mg_no_damage_laws.specs.Stands.{DamageStands}
use Rattle.mg_records.specs.Asking.{TakesNoPage}
use Rattle.mg_records.specs.Crashing.{LeavesQuietly}
use Rattle.mg_records.specs.Keeping.{Reads, refusal_in}
use Rattle.mg_records.specs.Sessions.{SessionsStay}
use Rattle.mg_row_writes.specs.declared.finding.RowAt.{RowAt}
use Rattle.mg_tending.specs.Collecting.{CollectsKey}
use Rattle.mg_value.specs.declared.value.Value.{Value}
use Rattle.mg_works.specs.Works.{given_to}
use Rattle.mg_engine.specs.Keyed.{FailsKey}
use Rattle.mg_engine.specs.Places.{places}

-- ---- the call

-- a record that was found is collected, if one was
abbrev pub CollectsFound : {D : Type 0} → Meaning D → Core D → Core D → TxNo → Table → Option RecId
    → Result Bool Refusal → Type 0
CollectsFound m old new t table None result = (new ≡ old) × (result ≡ Ok false)
CollectsFound m old new t table (Some rec) result = CollectsPlace m old new t table rec result

-- Pages were read: this record speaks for the key, or none does; then it was collected.
pub record FindsAndCollects {D : Type 0} (m : Meaning D) (old new : Core D) (t : TxNo) (table : Table) (key : Value)
    (result : Result Bool Refusal) : Type 0 where
  pub continues : Continues old t.0
  pub between : Core D
  pub core : IsCore m between
  pub found : RowAt
  pub reads : ReadsKnown m old between t table key found
  pub collects : CollectsFound m between new t table found.rec result

-- the record that speaks for a key is collected, or the call is refused
abbrev pub CollectsAtKey : {D : Type 0} → Meaning D → Core D → Core D → TxNo → Table → Value
    → Result Bool Refusal → Type 0
CollectsAtKey m old new t table key (Ok gone) = FindsAndCollects m old new t table key (Ok gone)
CollectsAtKey m old new t table key (Err refusal) = (RefusesCall old t.0 refusal × (new ≡ old))
    ⊎ (FailsKey m old new t table key refusal ⊎ FindsAndCollects m old new t table key (Err refusal))

-- ---- what it is to a keeper of records

-- It is nobody's event; a refusal comes from outside, and is no want of pages; each fault of the disk is told, no damage
-- is met, and no page taken.
pub record IsBesideAll {D : Type 0} (m : Meaning D) (old new : Core D) (result : Result Bool Refusal) : Type 0 where
  pub outside : IfErr result (λ refusal. is_outer (No refusal) ≡ true)
  pub reads : Reads (means m places) old new (refusal_in result) None
  pub crash : LeavesQuietly (means m places) old new
  pub sessions : SessionsStay (means m places) old new None None
  pub told : TellsFaults m old new (refusal_in result)
  pub undamaged : DamageStands m old new
  pub room : RoomStands m old new (refusal_in result) 0
  pub unpaged : (o : Opening) (h : Entries) → StandsFor m old o h → TakesNoPage (refusal_in result)

-- and of the record what remains is left
pub record CollectsBeside {D : Type 0} (m : Meaning D) (old new : Core D) (table : Table) (key : Value)
    (result : Result Bool Refusal) : Type 0 where
  pub beside : IsBesideAll m old new result
  pub collects : IfOk result (CollectsKey (means m places) (collecting m places) old new table key)

-- so it is with each such call of a table that was given
abbrev pub KeyCollectionsGoOn : (D : Type 0) → Meaning D → Type 0
KeyCollectionsGoOn D m = (old new : Core D) (t : TxNo) (table : Table) (key : Value) (result : Result Bool Refusal)
    → IsCore m old → HasCounts old → given_to old.works t.0 table.name ≡ Some table
    → CollectsAtKey m old new t table key result → CollectsBeside m old new table key result
