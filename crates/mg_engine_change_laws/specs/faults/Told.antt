-- The disk's counts of faults stand where a call of an engine tells no fault of it: the one of all of them, and the one of
-- page writes that failed.
use Rattle.std.specs.Prelude.{◌≡◌, ℕ, Bool, true, false, List, Option, Result, MatchResult}
use Rattle.mg_base.specs.Disk.{Meaning}
use Rattle.mg_base.specs.declared.numbers.PageNo.{PageNo}
use Rattle.mg_base.specs.declared.numbers.TxNo.{TxNo}
use Rattle.mg_faults.specs.Faults.{FaultCount, counts_reads, each_fault, failed_writes, tells_rise}
use Rattle.mg_model.specs.declared.change.Point.{Point}
use Rattle.mg_model.specs.declared.event.Mode.{Mode}
use Rattle.mg_model.specs.declared.refusal.Refusal.{Refusal}
use Rattle.mg_model.specs.declared.table.Table.{Table}
use Rattle.mg_pool.specs.declared.fault.PoolFault.TheVariants as faults
use Rattle.mg_pool.specs.declared.pool.Pool.{Pool}
use Rattle.mg_records.specs.Keeping.{refusal_in}
use Rattle.mg_records.specs.declared.found.Found.{Found}
use Rattle.mg_records.specs.declared.write.Write.{Write}
use Rattle.mg_space.specs.declared.fault.SpaceFault.{SpaceFault}
use Rattle.mg_space.specs.declared.fault.SpaceFault.TheVariants as space
use Rattle.mg_value.specs.declared.shape.Shape.{Shape}
use Rattle.mg_core.specs.declared.parts.Core.{Core}
use Rattle.mg_core.specs.declared.scanning.Place.{Place}
use Rattle.mg_core.specs.Beginning.{BeginsFor}
use Rattle.mg_core.specs.Committing.{AsksCommit, StepsCommit, WritesPage}
use Rattle.mg_core.specs.Ending.{Commits, RefusesCommit}
use Rattle.mg_core.specs.Events.{EndsWait, IsRefused, Looks, RollsBack, SetsPoint}
use Rattle.mg_core.specs.Scanning.{Scans}
use Rattle.mg_core.specs.Tables.{AnswersTable}
use Rattle.mg_taking_back.specs.Noting.{FailsNoted, WritesNoted}
use Rattle.mg_taking_back.specs.Taking.{FailsBackTo, GoesBackTo, TakesBackTo}
use Rattle.mg_table_making.specs.Creating.{CreatesTable, FailsCreation}
use Rattle.mg_table_takings.specs.Takings.{FailsTablesTo, GoesBackOver, TakesTablesTo}

-- one of the two counts
abbrev pub disk_count : {D : Type 0} → Meaning D → FaultCount → D → ℕ
disk_count m each_fault disk = m.faults disk
disk_count m failed_writes disk = m.failed_writes disk

-- it stands from one cache to another
abbrev pub Stands : {D L : Type 0} → Meaning D → FaultCount → Pool D L → Pool D L → Type 0
Stands m k old new = disk_count m k new.disk ≡ disk_count m k old.disk

-- a fault of a call on the pages is one that is counted so
abbrev pub is_disks : FaultCount → SpaceFault → Bool
is_disks k (space.Pool (faults.DiskRead n)) = counts_reads k
is_disks k (space.Pool (faults.DiskWrite n)) = true
is_disks k fault = false

-- from one engine to another it stands, but for a refusal that tells of its rise
abbrev pub TellsRise : {D : Type 0} → Meaning D → FaultCount → Core D → Core D → Option Refusal → Type 0
TellsRise m k old new refusal = tells_rise k refusal ≡ false → Stands m k old.store new.store

-- and so do both
abbrev pub TellsFaults : {D : Type 0} → Meaning D → Core D → Core D → Option Refusal → Type 0
TellsFaults m old new refusal = (k : FaultCount) → TellsRise m k old new refusal

-- ---- by what a call of an engine promises

abbrev pub BeginsTell : (D : Type 0) → Meaning D → Type 0
BeginsTell D m = (old new : Core D) (session : ℕ) (mode : Mode) (result : Result TxNo Refusal)
    → BeginsFor m old new session mode result → TellsFaults m old new (refusal_in result)

abbrev pub EventsTell : (D : Type 0) → Meaning D → Type 0
EventsTell D m = (old new : Core D) (t : ℕ) (result : Result (Unit {0}) Refusal)
    → MatchResult result (λ _. Looks old new t) (IsRefused old new t) → TellsFaults m old new (refusal_in result)

-- a call that at most ends the wait
abbrev pub WaitsTell : (D : Type 0) → Meaning D → Type 0
WaitsTell D m = (old new : Core D) (t : ℕ) (refusal : Option Refusal) → EndsWait old new t
    → TellsFaults m old new refusal

abbrev pub PointsTell : (D : Type 0) → Meaning D → Type 0
PointsTell D m = (old new : Core D) (t : ℕ) (name : Option (List ℕ)) (result : Result (Unit {0}) Refusal)
    → SetsPoint old new t name result → TellsFaults m old new (refusal_in result)

abbrev pub RollbacksTell : (D : Type 0) → Meaning D → Type 0
RollbacksTell D m = (old new : Core D) (t : ℕ) (result : Result (Unit {0}) Refusal)
    → MatchResult result (λ _. RollsBack old new t) (IsRefused old new t) → TellsFaults m old new (refusal_in result)

abbrev pub TablesTell : (D : Type 0) → Meaning D → Type 0
TablesTell D m = (old new : Core D) (t : TxNo) (name : List ℕ) (result : Result Table Refusal)
    → AnswersTable m old new t name result → TellsFaults m old new (refusal_in result)

abbrev pub WalksTell : (D : Type 0) → Meaning D → Type 0
WalksTell D m = (old new : Core D) (t : TxNo) (table : Table) (after : Option Place)
    (result : Result (Option (Found Place)) Refusal) → Scans m old new t table after result
    → TellsFaults m old new (refusal_in result)

abbrev pub WritesTell : (D : Type 0) → Meaning D → Type 0
WritesTell D m = (old new : Core D) (t : TxNo) (table : Table) (write : Write) (result : Result (Unit {0}) Refusal)
    → MatchResult result (λ _. WritesNoted m old new t table write) (FailsNoted m old new t table write)
    → TellsFaults m old new (refusal_in result)

abbrev pub MakingsTell : (D : Type 0) → Meaning D → Type 0
MakingsTell D m = (old new : Core D) (t : TxNo) (name : List ℕ) (shape : Shape) (result : Result (Unit {0}) Refusal)
    → MatchResult result (λ _. CreatesTable m old new t name shape) (FailsCreation m old new t name shape)
    → TellsFaults m old new (refusal_in result)

abbrev pub MarksTell : (D : Type 0) → Meaning D → Type 0
MarksTell D m = (old new : Core D) (t : ℕ) (point : Point) (result : Result (Unit {0}) Refusal)
    → MatchResult result (λ _. TakesBackTo m old new t point) (FailsBackTo m old new t point)
    → TellsFaults m old new (refusal_in result)

abbrev pub SavepointsTell : (D : Type 0) → Meaning D → Type 0
SavepointsTell D m = (old new : Core D) (t : ℕ) (name : List ℕ) (result : Result Bool Refusal)
    → GoesBackTo m old new t name result → TellsFaults m old new (refusal_in result)

-- the same over tables that the transaction has made since
abbrev pub TableMarksTell : (D : Type 0) → Meaning D → Type 0
TableMarksTell D m = (old new : Core D) (t : ℕ) (point : Point) (result : Result (Unit {0}) Refusal)
    → MatchResult result (λ _. TakesTablesTo m old new t point) (FailsTablesTo m old new t point)
    → TellsFaults m old new (refusal_in result)

abbrev pub TableSavepointsTell : (D : Type 0) → Meaning D → Type 0
TableSavepointsTell D m = (old new : Core D) (t : ℕ) (name : List ℕ) (result : Result Bool Refusal)
    → GoesBackOver m old new t name result → TellsFaults m old new (refusal_in result)

abbrev pub AsksTell : (D : Type 0) → Meaning D → Type 0
AsksTell D m = (old new : Core D) (t : ℕ) (result : Result (Unit {0}) Refusal) → AsksCommit old new t result
    → TellsFaults m old new (refusal_in result)

abbrev pub StepsTell : (D : Type 0) → Meaning D → Type 0
StepsTell D m = (old new : Core D) (t : ℕ) (result : Result Bool Refusal) → StepsCommit m old new t result
    → TellsFaults m old new (refusal_in result)

abbrev pub CommitsTell : (D : Type 0) → Meaning D → Type 0
CommitsTell D m = (old new : Core D) (t : ℕ) (result : Result (Unit {0}) Refusal)
    → MatchResult result (λ _. Commits m old new t) (RefusesCommit m old new t)
    → TellsFaults m old new (refusal_in result)

abbrev pub PageWritesTell : (D : Type 0) → Meaning D → Type 0
PageWritesTell D m = (old new : Core D) (result : Result (Option PageNo) Refusal) → WritesPage m old new result
    → TellsFaults m old new (refusal_in result)
