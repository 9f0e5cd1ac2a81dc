-- A table that is made, or not, as a keeper of records owes it.
use Rattle.std.specs.Prelude.{◌≢◌, ℕ, List, Option, None, Some}
use Rattle.mg_base.specs.Disk.{Meaning}
use Rattle.mg_base.specs.declared.numbers.TxNo.{TxNo}
use Rattle.mg_value.specs.Names.{IsName}
use Rattle.mg_value.specs.declared.shape.Shape.{Shape}
use Rattle.mg_model.specs.Catalog.{catalog_name}
use Rattle.mg_model.specs.declared.refusal.Refusal.{Refusal}
use Rattle.mg_records.specs.Crashing.{LeavesQuietly}
use Rattle.mg_records.specs.Keeping.{Leaves}
use Rattle.mg_records.specs.Sessions.{SessionsStay}
use Rattle.mg_records.specs.Writing.{FitsPages, IsNewShape, MakesTable}
use Rattle.mg_table_making.specs.Creating.{CreatesTable, FailsCreation}
use Rattle.mg_works.specs.Works.{AreApart}
use Rattle.mg_core.specs.Cores.{IsCore}
use Rattle.mg_core.specs.declared.parts.Core.{Core}
use Rattle.mg_engine_meaning_laws.specs.Meaning.{Places, means}
use Rattle.mg_engine_change_laws.specs.memory.Notes.{AreCounts}

-- what a keeper of records owes of a table that is made, or refused
pub record GivesTable {D P : Type 0} (m : Meaning D) (places : Places P) (old new : Core D) (t : TxNo) (name : List ℕ)
    (shape : Shape) (refusal : Option Refusal) : Type 0 where
  pub makes : MakesTable (means m places) old new t name shape refusal
  pub leaves : Leaves (means m places) old new refusal (Some t.0) (Some t.0)
  pub crash : LeavesQuietly (means m places) old new
  pub sessions : SessionsStay (means m places) old new None None

-- A name and a shape that a new table may have.
pub record MayHave {D P : Type 0} (m : Meaning D) (places : Places P) (old : Core D) (name : List ℕ) (shape : Shape)
    : Type 0 where
  pub named : IsName name
  pub other : name ≢ catalog_name
  pub new : IsNewShape shape
  pub fits : FitsPages (means m places) old shape

-- a table that is made
abbrev pub TablesAreMade : (D P : Type 0) → Meaning D → Type 0
TablesAreMade D P m = (places : Places P) (old new : Core D) (t : TxNo) (name : List ℕ) (shape : Shape) → IsCore m old
    → MayHave m places old name shape → CreatesTable m old new t name shape
    → GivesTable m places old new t name shape None

-- and one that is not
abbrev pub TablesAreRefused : (D P : Type 0) → Meaning D → Type 0
TablesAreRefused D P m = (places : Places P) (old new : Core D) (t : TxNo) (name : List ℕ) (shape : Shape)
    (refusal : Refusal) → IsCore m old → AreCounts old → FailsCreation m old new t name shape refusal
    → GivesTable m places old new t name shape (Some refusal)

-- each session has one active transaction at most, as it was
abbrev pub CreationsKeepApart : (D P : Type 0) → Meaning D → Type 0
CreationsKeepApart D P m = (places : Places P) (old new : Core D) (t : TxNo) (name : List ℕ) (shape : Shape)
    → IsCore m old → MayHave m places old name shape → AreApart old.works → CreatesTable m old new t name shape
    → AreApart new.works

abbrev pub RefusalsKeepApart : (D P : Type 0) → Meaning D → Type 0
RefusalsKeepApart D P m = (places : Places P) (old new : Core D) (t : TxNo) (name : List ℕ) (shape : Shape)
    (refusal : Refusal) → IsCore m old → AreCounts old → AreApart old.works
    → FailsCreation m old new t name shape refusal → AreApart new.works
