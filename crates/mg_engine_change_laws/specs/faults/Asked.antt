-- What a call of an engine asks of the disk, and what one is refused for that takes no memory.
use Rattle.std.specs.Prelude.{◌≡◌, ◌+◌, ◌≤◌, ℕ, Bool, List, OnOk, Option, Result, MatchResult}
use Rattle.mg_base.specs.Disk.{Meaning}
use Rattle.mg_base.specs.declared.numbers.PageNo.{PageNo}
use Rattle.mg_base.specs.declared.numbers.TxNo.{TxNo}
use Rattle.mg_core.specs.Committing.{AsksCommit, StepsCommit, WritesPage}
use Rattle.mg_core.specs.Cores.{Continues, RefusesCall}
use Rattle.mg_core.specs.Ending.{Commits, RefusesCommit}
use Rattle.mg_core.specs.Events.{EndsWait, IsRefused, Looks, RollsBack, SetsPoint}
use Rattle.mg_core.specs.Scanning.{Scans}
use Rattle.mg_core.specs.Tables.{AnswersTable}
use Rattle.mg_core.specs.declared.parts.Core.{Core}
use Rattle.mg_core.specs.declared.scanning.Place.{Place}
use Rattle.mg_model.specs.declared.refusal.Refusal.{Refusal}
use Rattle.mg_model.specs.declared.table.Table.{Table}
use Rattle.mg_records.specs.Asking.{TakesNoPage, TakesNothing}
use Rattle.mg_records.specs.Keeping.{refusal_in}
use Rattle.mg_records.specs.declared.found.Found.{Found}

-- from one engine to another no page write was asked for, or one at most
abbrev pub AsksNoWrite : {D : Type 0} → Meaning D → Core D → Core D → Type 0
AsksNoWrite m old new = m.asked new.store.disk ≡ m.asked old.store.disk

abbrev pub AsksOneWrite : {D : Type 0} → Meaning D → Core D → Core D → Type 0
AsksOneWrite m old new = m.asked new.store.disk ≤ m.asked old.store.disk + 1

-- ---- page writes, by what a call of an engine promises

abbrev pub LooksAskNone : (D : Type 0) → Meaning D → Type 0
LooksAskNone D m = (old new : Core D) (t : ℕ) (result : Result (Unit {0}) Refusal)
    → MatchResult result (λ _. Looks old new t) (IsRefused old new t) → AsksNoWrite m old new

-- a call that at most ends the wait
abbrev pub WaitsAskNone : (D : Type 0) → Meaning D → Type 0
WaitsAskNone D m = (old new : Core D) (t : ℕ) → EndsWait old new t → AsksNoWrite m old new

abbrev pub PointsAskNone : (D : Type 0) → Meaning D → Type 0
PointsAskNone D m = (old new : Core D) (t : ℕ) (name : Option (List ℕ)) (result : Result (Unit {0}) Refusal)
    → SetsPoint old new t name result → AsksNoWrite m old new

abbrev pub RollbacksAskNone : (D : Type 0) → Meaning D → Type 0
RollbacksAskNone D m = (old new : Core D) (t : ℕ) (result : Result (Unit {0}) Refusal)
    → MatchResult result (λ _. RollsBack old new t) (IsRefused old new t) → AsksNoWrite m old new

abbrev pub TablesAskNone : (D : Type 0) → Meaning D → Type 0
TablesAskNone D m = (old new : Core D) (t : TxNo) (name : List ℕ) (result : Result Table Refusal)
    → AnswersTable m old new t name result → AsksNoWrite m old new

abbrev pub WalksAskNone : (D : Type 0) → Meaning D → Type 0
WalksAskNone D m = (old new : Core D) (t : TxNo) (table : Table) (after : Option Place)
    (result : Result (Option (Found Place)) Refusal) → Scans m old new t table after result → AsksNoWrite m old new

abbrev pub AskingAsksNone : (D : Type 0) → Meaning D → Type 0
AskingAsksNone D m = (old new : Core D) (t : ℕ) (result : Result (Unit {0}) Refusal) → AsksCommit old new t result
    → AsksNoWrite m old new

abbrev pub StepsAskOne : (D : Type 0) → Meaning D → Type 0
StepsAskOne D m = (old new : Core D) (t : ℕ) (result : Result Bool Refusal) → StepsCommit m old new t result
    → OnOk result (AsksOneWrite m old new)

abbrev pub PageWritesAskOne : (D : Type 0) → Meaning D → Type 0
PageWritesAskOne D m = (old new : Core D) (result : Result (Option PageNo) Refusal) → WritesPage m old new result
    → OnOk result (AsksOneWrite m old new)

-- ---- what they are refused for

abbrev pub AskingTakesNothing : (D : Type 0) → Meaning D → Type 0
AskingTakesNothing D m = (old new : Core D) (t : ℕ) (result : Result (Unit {0}) Refusal) → AsksCommit old new t result
    → TakesNothing (refusal_in result)

abbrev pub StepsTakeNothing : (D : Type 0) → Meaning D → Type 0
StepsTakeNothing D m = (old new : Core D) (t : ℕ) (result : Result Bool Refusal) → StepsCommit m old new t result
    → TakesNothing (refusal_in result)

abbrev pub CommitsTakeNothing : (D : Type 0) → Meaning D → Type 0
CommitsTakeNothing D m = (old new : Core D) (t : ℕ) (result : Result (Unit {0}) Refusal)
    → MatchResult result (λ _. Commits m old new t) (RefusesCommit m old new t) → TakesNothing (refusal_in result)

abbrev pub RollbacksTakeNothing : (D : Type 0) → Meaning D → Type 0
RollbacksTakeNothing D m = (old new : Core D) (t : ℕ) (result : Result (Unit {0}) Refusal)
    → MatchResult result (λ _. RollsBack old new t) (IsRefused old new t) → TakesNothing (refusal_in result)

abbrev pub PageWritesTakeNothing : (D : Type 0) → Meaning D → Type 0
PageWritesTakeNothing D m = (old new : Core D) (result : Result (Option PageNo) Refusal) → WritesPage m old new result
    → TakesNothing (refusal_in result)

-- ---- that none is refused for want of pages

abbrev pub LooksTakeNoPage : (D : Type 0) → Meaning D → Type 0
LooksTakeNoPage D m = (old new : Core D) (t : ℕ) (result : Result (Unit {0}) Refusal)
    → MatchResult result (λ _. Looks old new t) (IsRefused old new t) → TakesNoPage (refusal_in result)

abbrev pub FoundsTakeNoPage : (D : Type 0) → Meaning D → Type 0
FoundsTakeNoPage D m = (old : Core D) (t : ℕ) (result : Result (Unit {0}) Refusal)
    → MatchResult result (λ _. Continues old t) (RefusesCall old t) → TakesNoPage (refusal_in result)

abbrev pub PointsTakeNoPage : (D : Type 0) → Meaning D → Type 0
PointsTakeNoPage D m = (old new : Core D) (t : ℕ) (name : Option (List ℕ)) (result : Result (Unit {0}) Refusal)
    → SetsPoint old new t name result → TakesNoPage (refusal_in result)
