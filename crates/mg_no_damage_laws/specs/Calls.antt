-- The calls of an engine that stands for a history meet no damage, by what the core promises of each.
use Rattle.std.specs.Prelude.{◌≡◌, ℕ, Bool, List, Option, Some, Result, MatchResult}
use Rattle.mg_base.specs.Disk.{Meaning}
use Rattle.mg_base.specs.declared.numbers.PageNo.{PageNo}
use Rattle.mg_base.specs.declared.numbers.TxNo.{TxNo}
use Rattle.mg_model.specs.declared.event.Mode.{Mode}
use Rattle.mg_model.specs.declared.refusal.Refusal.{Refusal}
use Rattle.mg_model.specs.declared.table.Table.{Table}
use Rattle.mg_records.specs.Writing.{FitsShape}
use Rattle.mg_records.specs.declared.write.Write.{Write}
use Rattle.mg_works.specs.Works.{given_to}
use Rattle.mg_core.specs.declared.parts.Core.{Core}
use Rattle.mg_core.specs.Beginning.{BeginsFor}
use Rattle.mg_core.specs.Committing.{AsksCommit, StepsCommit, WritesPage}
use Rattle.mg_core.specs.Cores.{IsCore}
use Rattle.mg_core.specs.Ending.{Commits, RefusesCommit}
use Rattle.mg_core.specs.Events.{EndsWait, IsRefused, Looks, RollsBack, SetsPoint}
use Rattle.mg_taking_back.specs.Noting.{FailsNoted, WritesNoted}
use Rattle.mg_no_damage_laws.specs.Stands.{DamageStands}

-- ---- numbers are drawn

-- a transaction begins
abbrev pub BeginsMeetNone : (D : Type 0) → Meaning D → Type 0
BeginsMeetNone D m = (old new : Core D) (session : ℕ) (mode : Mode) (result : Result TxNo Refusal) → IsCore m old
    → BeginsFor m old new session mode result → DamageStands m old new

-- ---- in memory alone

-- a statement begins
abbrev pub LooksMeetNone : (D : Type 0) → Meaning D → Type 0
LooksMeetNone D m = (old new : Core D) (t : ℕ) (result : Result (Unit {0}) Refusal)
    → MatchResult result (λ _. Looks old new t) (IsRefused old new t) → DamageStands m old new

-- a call at most ends the wait
abbrev pub WaitsMeetNone : (D : Type 0) → Meaning D → Type 0
WaitsMeetNone D m = (old new : Core D) (t : ℕ) → EndsWait old new t → DamageStands m old new

-- a mark or a savepoint is set
abbrev pub PointsMeetNone : (D : Type 0) → Meaning D → Type 0
PointsMeetNone D m = (old new : Core D) (t : ℕ) (name : Option (List ℕ)) (result : Result (Unit {0}) Refusal)
    → SetsPoint old new t name result → DamageStands m old new

-- a transaction is rolled back
abbrev pub RollbacksMeetNone : (D : Type 0) → Meaning D → Type 0
RollbacksMeetNone D m = (old new : Core D) (t : ℕ) (result : Result (Unit {0}) Refusal)
    → MatchResult result (λ _. RollsBack old new t) (IsRefused old new t) → DamageStands m old new

-- ---- pages are written

-- a commit is asked for
abbrev pub AsksMeetNone : (D : Type 0) → Meaning D → Type 0
AsksMeetNone D m = (old new : Core D) (t : ℕ) (result : Result (Unit {0}) Refusal) → AsksCommit old new t result
    → DamageStands m old new

-- a page is written for it
abbrev pub StepsMeetNone : (D : Type 0) → Meaning D → Type 0
StepsMeetNone D m = (old new : Core D) (t : ℕ) (result : Result Bool Refusal) → StepsCommit m old new t result
    → DamageStands m old new

-- it ends
abbrev pub CommitsMeetNone : (D : Type 0) → Meaning D → Type 0
CommitsMeetNone D m = (old new : Core D) (t : ℕ) (result : Result (Unit {0}) Refusal)
    → MatchResult result (λ _. Commits m old new t) (RefusesCommit m old new t) → DamageStands m old new

-- a page is written between calls
abbrev pub PageWritesMeetNone : (D : Type 0) → Meaning D → Type 0
PageWritesMeetNone D m = (old new : Core D) (result : Result (Option PageNo) Refusal) → WritesPage m old new result
    → DamageStands m old new

-- ---- rows

-- a row that fits its table, which was given to the transaction, is written
abbrev pub WritesMeetNone : (D : Type 0) → Meaning D → Type 0
WritesMeetNone D m = (old new : Core D) (t : TxNo) (table : Table) (write : Write) (result : Result (Unit {0}) Refusal)
    → IsCore m old → given_to old.works t.0 table.name ≡ Some table → FitsShape table.shape write
    → MatchResult result (λ _. WritesNoted m old new t table write) (FailsNoted m old new t table write)
    → DamageStands m old new
