-- The calls of an engine that stands for a history take few pages, by what the core promises of each.
use Rattle.std.specs.Prelude.{◌≡◌, ℕ, Bool, false, List, length, Option, Some, Result, MatchResult}
use Rattle.mg_base.specs.Disk.{Meaning}
use Rattle.mg_works.specs.Works.{given_to}
use Rattle.mg_base.specs.declared.numbers.PageNo.{PageNo}
use Rattle.mg_base.specs.declared.numbers.TxNo.{TxNo}
use Rattle.mg_model.specs.declared.change.Point.{Point}
use Rattle.mg_model.specs.declared.change.Point.TheVariants.{LastMark, SavepointNamed}
use Rattle.mg_model.specs.declared.event.Mode.{Mode}
use Rattle.mg_model.specs.declared.refusal.Refusal.{Refusal}
use Rattle.mg_model.specs.declared.table.Table.{Table}
use Rattle.mg_records.specs.Keeping.{refusal_in}
use Rattle.mg_records.specs.Room.{pages_of_begin, pages_of_row, pages_of_table}
use Rattle.mg_records.specs.Writing.{FitsShape}
use Rattle.mg_records.specs.declared.found.Found.{Found}
use Rattle.mg_records.specs.declared.write.Write.{Write}
use Rattle.mg_value.specs.declared.shape.Shape.{Shape}
use Rattle.mg_core.specs.declared.parts.Core.{Core}
use Rattle.mg_core.specs.declared.scanning.Place.{Place}
use Rattle.mg_core.specs.Beginning.{BeginsFor}
use Rattle.mg_core.specs.Committing.{AsksCommit, StepsCommit, WritesPage}
use Rattle.mg_core.specs.Cores.{Continues, IsCore, RefusesCall}
use Rattle.mg_core.specs.Ending.{Commits, RefusesCommit}
use Rattle.mg_core.specs.Events.{EndsWait, IsRefused, Looks, RollsBack, SetsPoint}
use Rattle.mg_core.specs.Scanning.{Scans}
use Rattle.mg_core.specs.Tables.{AnswersTable}
use Rattle.mg_engine_change_laws.specs.tables.MakingSteps.{MayHave}
use Rattle.mg_engine_meaning_laws.specs.Meaning.{Places}
use Rattle.mg_table_making.specs.Creating.{CreatesTable, FailsCreation}
use Rattle.mg_table_takings.specs.Takings.{FailsTablesTo, GoesBackOver, TakesTablesTo}
use Rattle.mg_taking_back.specs.Noting.{FailsNoted, WritesNoted}
use Rattle.mg_taking_back.specs.Tables.{TellsTables}
use Rattle.mg_taking_back.specs.Taking.{FailsBackTo, GoesBackTo, TakesBackTo}
use Rattle.mg_no_damage_laws.specs.FewPages.{RoomStands, RoomStandsBack}

-- ---- numbers are drawn

-- a transaction begins
abbrev pub BeginsTakeFew : (D : Type 0) → Meaning D → Type 0
BeginsTakeFew D m = (old new : Core D) (session : ℕ) (mode : Mode) (result : Result TxNo Refusal) → IsCore m old
    → BeginsFor m old new session mode result → RoomStands m old new (refusal_in result) pages_of_begin

-- ---- in memory alone

-- a statement begins
abbrev pub LooksTakeNone : (D : Type 0) → Meaning D → Type 0
LooksTakeNone D m = (old new : Core D) (t : ℕ) (result : Result (Unit {0}) Refusal)
    → MatchResult result (λ _. Looks old new t) (IsRefused old new t) → RoomStands m old new (refusal_in result) 0

-- a mark or a savepoint is set
abbrev pub PointsTakeNone : (D : Type 0) → Meaning D → Type 0
PointsTakeNone D m = (old new : Core D) (t : ℕ) (name : Option (List ℕ)) (result : Result (Unit {0}) Refusal)
    → SetsPoint old new t name result → RoomStands m old new (refusal_in result) 0

-- a transaction is rolled back
abbrev pub RollbacksTakeNone : (D : Type 0) → Meaning D → Type 0
RollbacksTakeNone D m = (old new : Core D) (t : ℕ) (result : Result (Unit {0}) Refusal)
    → MatchResult result (λ _. RollsBack old new t) (IsRefused old new t) → RoomStands m old new (refusal_in result) 0

-- what a statement found is told
abbrev pub FoundsTakeNone : (D : Type 0) → Meaning D → Type 0
FoundsTakeNone D m = (old new : Core D) (t : ℕ) (result : Result (Unit {0}) Refusal) → EndsWait old new t
    → MatchResult result (λ _. Continues old t) (RefusesCall old t) → RoomStands m old new (refusal_in result) 0

-- ---- pages are read

-- the table of a name is asked for
abbrev pub TablesTakeNone : (D : Type 0) → Meaning D → Type 0
TablesTakeNone D m = (old new : Core D) (t : TxNo) (name : List ℕ) (result : Result Table Refusal)
    → AnswersTable m old new t name result → RoomStands m old new (refusal_in result) 0

-- the next record of a table is visited
abbrev pub VisitsTakeNone : (D : Type 0) → Meaning D → Type 0
VisitsTakeNone D m = (old new : Core D) (t : TxNo) (table : Table) (after : Option Place)
    (result : Result (Option (Found Place)) Refusal) → Scans m old new t table after result
    → RoomStands m old new (refusal_in result) 0

-- ---- pages are written

-- a commit is asked for
abbrev pub AsksTakeNone : (D : Type 0) → Meaning D → Type 0
AsksTakeNone D m = (old new : Core D) (t : ℕ) (result : Result (Unit {0}) Refusal) → AsksCommit old new t result
    → RoomStands m old new (refusal_in result) 0

-- a page is written for it
abbrev pub StepsTakeNone : (D : Type 0) → Meaning D → Type 0
StepsTakeNone D m = (old new : Core D) (t : ℕ) (result : Result Bool Refusal) → IsCore m old
    → StepsCommit m old new t result → RoomStands m old new (refusal_in result) 0

-- it ends
abbrev pub CommitsTakeNone : (D : Type 0) → Meaning D → Type 0
CommitsTakeNone D m = (old new : Core D) (t : ℕ) (result : Result (Unit {0}) Refusal) → IsCore m old
    → MatchResult result (λ _. Commits m old new t) (RefusesCommit m old new t)
    → RoomStands m old new (refusal_in result) 0

-- a page is written between calls
abbrev pub PageWritesTakeNone : (D : Type 0) → Meaning D → Type 0
PageWritesTakeNone D m = (old new : Core D) (result : Result (Option PageNo) Refusal) → IsCore m old
    → WritesPage m old new result → RoomStands m old new (refusal_in result) 0

-- ---- rows and tables

-- a row that fits its table, which was given to the transaction, is written
abbrev pub WritesTakeFew : (D : Type 0) → Meaning D → Type 0
WritesTakeFew D m = (old new : Core D) (t : TxNo) (table : Table) (write : Write) (result : Result (Unit {0}) Refusal)
    → IsCore m old → given_to old.works t.0 table.name ≡ Some table → FitsShape table.shape write
    → MatchResult result (λ _. WritesNoted m old new t table write) (FailsNoted m old new t table write)
    → RoomStands m old new (refusal_in result) pages_of_row

-- a table is made, for a name and a shape that a new table may have
abbrev pub CreationsTakeFew : (D P : Type 0) → Meaning D → Type 0
CreationsTakeFew D P m = (places : Places P) (old new : Core D) (t : TxNo) (name : List ℕ) (shape : Shape)
    (result : Result (Unit {0}) Refusal) → IsCore m old → MayHave m places old name shape
    → MatchResult result (λ _. CreatesTable m old new t name shape) (FailsCreation m old new t name shape)
    → RoomStands m old new (refusal_in result) (pages_of_table (length shape.columns))

-- ---- the way back

-- to the last mark, where no change since is of the catalog
abbrev pub MarksTakeFew : (D : Type 0) → Meaning D → Type 0
MarksTakeFew D m = (old new : Core D) (t : TxNo) (result : Result (Unit {0}) Refusal) → IsCore m old
    → TellsTables old t.0 LastMark false
    → MatchResult result (λ _. TakesBackTo m old new t.0 LastMark) (FailsBackTo m old new t.0 LastMark)
    → RoomStandsBack m old new (refusal_in result) t.0 LastMark

-- to the last savepoint of a name
abbrev pub SavepointsTakeFew : (D : Type 0) → Meaning D → Type 0
SavepointsTakeFew D m = (old new : Core D) (t : TxNo) (name : List ℕ) (result : Result Bool Refusal)
    → IsCore m old → TellsTables old t.0 (SavepointNamed name) false → GoesBackTo m old new t.0 name result
    → RoomStandsBack m old new (refusal_in result) t.0 (SavepointNamed name)

-- over tables that the transaction has made
abbrev pub MarksOverTakeFew : (D : Type 0) → Meaning D → Type 0
MarksOverTakeFew D m = (old new : Core D) (t : TxNo) (result : Result (Unit {0}) Refusal) → IsCore m old
    → MatchResult result (λ _. TakesTablesTo m old new t.0 LastMark) (FailsTablesTo m old new t.0 LastMark)
    → RoomStandsBack m old new (refusal_in result) t.0 LastMark

abbrev pub SavepointsOverTakeFew : (D : Type 0) → Meaning D → Type 0
SavepointsOverTakeFew D m = (old new : Core D) (t : TxNo) (name : List ℕ) (result : Result Bool Refusal)
    → IsCore m old → GoesBackOver m old new t.0 name result
    → RoomStandsBack m old new (refusal_in result) t.0 (SavepointNamed name)
