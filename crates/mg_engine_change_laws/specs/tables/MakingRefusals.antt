-- A table that is not made: each refusal before its rows are put, as a keeper of records owes it.
use Rattle.std.specs.Prelude.{◌≡◌, ◌⊎◌, ℕ, List, None, Some}
use Rattle.mg_base.specs.Disk.{Meaning}
use Rattle.mg_base.specs.declared.numbers.TxNo.{TxNo}
use Rattle.mg_catalog.specs.RowsSaid.{table_row}
use Rattle.mg_model.specs.declared.answer.Answer.TheVariants.{No}
use Rattle.mg_model.specs.declared.event.Event.{Event}
use Rattle.mg_model.specs.declared.event.Event.TheVariants.{Insert}
use Rattle.mg_model.specs.declared.refusal.Refusal.{Refusal}
use Rattle.mg_model.specs.Catalog.{catalog_name}
use Rattle.mg_records.specs.Writing.{new_table}
use Rattle.mg_table_making.specs.Creating.{FailsCreation, FailsKeeping, FailsMaking, MayBeMade}
use Rattle.mg_table_making.specs.Keys.{keys_made}
use Rattle.mg_value.specs.declared.shape.Shape.{Shape}
use Rattle.mg_core.specs.declared.parts.Core.{Core}
use Rattle.mg_core.specs.Cores.{IsCore}
use Rattle.mg_engine_meaning_laws.specs.Frames.{GivesEvent}
use Rattle.mg_engine_meaning_laws.specs.Meaning.{Places}
use Rattle.mg_engine_change_laws.specs.memory.Notes.{AreCounts}

-- the event of a new table's own row, the first that is tried
abbrev pub own_event : TxNo → List ℕ → Shape → Event
own_event t name shape = Insert t catalog_name (table_row (new_table name shape))

-- Nobody was in the way of a new table, and then what was at its keys was not kept, or its rows were not put.
pub record IsNotPut {D : Type 0} (m : Meaning D) (old new : Core D) (t : TxNo) (name : List ℕ) (shape : Shape)
    (refusal : Refusal) : Type 0 where
  pub free : Core D
  pub may : MayBeMade m old free t name shape
  pub fails : FailsKeeping free new t (keys_made old.catalog.shape name shape) refusal
      ⊎ FailsMaking m free new t name shape (keys_made old.catalog.shape name shape) refusal

-- the event of its own row is given with the refusal, and what is kept of transactions is as it was; or the rows were not
-- put
abbrev pub CreationsAreRefused : (D P : Type 0) → Meaning D → Type 0
CreationsAreRefused D P m = (places : Places P) (old new : Core D) (t : TxNo) (name : List ℕ) (shape : Shape)
    (refusal : Refusal) → IsCore m old → AreCounts old → FailsCreation m old new t name shape refusal
    → (GivesEvent m places old new (own_event t name shape) (No refusal) (Some refusal) (Some t.0) (Some t.0) None None
    × (new.works ≡ old.works)) ⊎ IsNotPut m old new t name shape refusal
