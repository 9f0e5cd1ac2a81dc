-- What tables and walks of an engine are to a keeper of records.
use Rattle.std.specs.Prelude.{◌≡◌, ◌<◌, ◌^◌, ℕ, List, Option, None, Some, Result, Ok, Err, IfOk}
use Rattle.mg_base.specs.Disk.{Meaning}
use Rattle.mg_base.specs.declared.numbers.TxNo.{TxNo}
use Rattle.mg_model.specs.declared.refusal.Refusal.{Refusal}
use Rattle.mg_model.specs.declared.table.Table.{Table}
use Rattle.mg_model.specs.Changes.{KeyedRows}
use Rattle.mg_records.specs.declared.found.Found.{Found}
use Rattle.mg_records.specs.Adding.{AnswersAll}
use Rattle.mg_records.specs.Crashing.{LeavesQuietly}
use Rattle.mg_records.specs.Keeping.{Reads, refusal_in}
use Rattle.mg_records.specs.Reading.{IsTableGiven, Nears, TellsTable, Visits}
use Rattle.mg_records.specs.Sessions.{SessionsStay}
use Rattle.mg_core.specs.declared.parts.Core.{Core}
use Rattle.mg_core.specs.declared.scanning.Place.{Place}
use Rattle.mg_core.specs.Cores.{IsCore}
use Rattle.mg_core.specs.Scanning.{Scans, rank}
use Rattle.mg_core.specs.Tables.{AnswersTable}
use Rattle.mg_engine_meaning_laws.specs.Counts.{HasCounts}
use Rattle.mg_engine_meaning_laws.specs.Meaning.{Places, means}

-- ---- tables

-- The table of a name is given or refused as the history tells, and nothing else comes of the call.
pub record GivesTable {D P : Type 0} (m : Meaning D) (places : Places P) (old new : Core D) (t : ℕ)
    (name : List ℕ) (result : Result Table Refusal) : Type 0 where
  pub table : TellsTable (means m places) old t name result
  pub given : IfOk result (IsTableGiven (means m places) new t name)
  pub reads : Reads (means m places) old new (refusal_in result) None
  pub crash : LeavesQuietly (means m places) old new
  pub sessions : SessionsStay (means m places) old new None None

-- so does each call that asks for one
abbrev pub TablesGoOn : (D P : Type 0) → Meaning D → Type 0
TablesGoOn D P m = (places : Places P) (old new : Core D) (t : TxNo) (name : List ℕ)
    (result : Result Table Refusal) → IsCore m old → HasCounts old
    → AnswersTable m old new t name result → GivesTable m places old new t.0 name result

-- ---- walks

-- These places have the record, the sequence and the rank of the core's.
pub record AreRanked (places : Places Place) : Type 0 where
  pub rec : (place : Place) → places.rec place ≡ place.rec
  pub sequence : (place : Place) → places.sequence place ≡ place.sequence
  pub rank : (place : Place) → places.rank place ≡ rank place

-- a place that was found has a rank of six bytes, since its sequence has four and its slot has two
abbrev pub IsInRank : Result (Option (Found Place)) Refusal → Type 0
IsInRank (Ok (Some found)) = rank found.place < 2 ^ 48
IsInRank (Ok None) = Unit {0}
IsInRank (Err refusal) = Unit {0}

-- A visit comes to the next of the rows that are to come, is nearer to the end, and nothing else comes of the call.
pub record VisitsRecord {D : Type 0} (m : Meaning D) (places : Places Place) (old new : Core D) (t : ℕ)
    (table : Table) (after : Option Place) (result : Result (Option (Found Place)) Refusal) : Type 0
  where
    pub answers : AnswersAll (means m places) old t result
    pub nears : Nears (means m places) old new t table after result
    pub visits : (rows : KeyedRows) → (means m places).to_come old t table after rows
        → Visits (means m places) new t table result rows
    pub reads : Reads (means m places) old new (refusal_in result) (Some t)
    pub crash : LeavesQuietly (means m places) old new
    pub sessions : SessionsStay (means m places) old new None None

-- so does each call of a walk
abbrev pub VisitsGoOn : (D : Type 0) → Meaning D → Type 0
VisitsGoOn D m = (places : Places Place) (old new : Core D) (t : TxNo) (table : Table)
    (after : Option Place) (result : Result (Option (Found Place)) Refusal) → AreRanked places
    → HasCounts old → IsInRank result → Scans m old new t table after result
    → VisitsRecord m places old new t.0 table after result
