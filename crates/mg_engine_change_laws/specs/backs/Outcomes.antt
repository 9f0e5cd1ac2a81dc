-- A transaction is taken back to a point by a call of the core, as a keeper of records owes it.
use Rattle.std.specs.Prelude.{◌≡◌, ◌⊎◌, ℕ, false, Bool, List, None, Some, Result, Err, MatchResult}
use Rattle.mg_base.specs.Disk.{Meaning}
use Rattle.mg_base.specs.declared.numbers.TxNo.{TxNo}
use Rattle.mg_model.specs.declared.change.Point.{Point}
use Rattle.mg_model.specs.declared.change.Point.TheVariants.{LastMark, SavepointNamed}
use Rattle.mg_model.specs.declared.event.Event.{Event}
use Rattle.mg_model.specs.declared.event.Event.TheVariants.{BackTo, UndoMark}
use Rattle.mg_model.specs.declared.opening.Opening.{Opening}
use Rattle.mg_model.specs.declared.refusal.Refusal.{Refusal}
use Rattle.mg_model.specs.declared.refusal.Refusal.TheVariants.{Memory}
use Rattle.mg_model.specs.History.{Entries}
use Rattle.mg_model.specs.Machine.{deeds_by, steps}
use Rattle.mg_records.specs.Crashing.{LeavesQuietly}
use Rattle.mg_records.specs.Keeping.{Leaves, refusal_in}
use Rattle.mg_records.specs.Sessions.{SessionsStay, given_up_in}
use Rattle.mg_records.specs.TakingBack.{GivesUp, GoesBack, Undoes}
use Rattle.mg_works.specs.Works.{AreApart}
use Rattle.mg_core.specs.declared.parts.Core.{Core}
use Rattle.mg_core.specs.Cores.{IsCore}
use Rattle.mg_taking_back.specs.Tables.{TellsTables}
use Rattle.mg_taking_back.specs.Taking.{FailsBackTo, GoesBackTo, TakesBackTo}
use Rattle.mg_engine_meaning_laws.specs.Meaning.{Places, means}
use Rattle.mg_engine_meaning_laws.specs.Standings.{StandsFor}
use Rattle.mg_engine_change_laws.specs.memory.Notes.{AreCounts}
use Rattle.mg_engine_change_laws.specs.backs.Memory.{LeavesCatalog}

-- the event that takes a transaction back to a point
abbrev pub back_event : TxNo → Point → Event
back_event t LastMark = UndoMark t
back_event t (SavepointNamed name) = BackTo t name

-- no change of a transaction since a point is of the catalog, by each history that the engine stands for
abbrev pub LeavesTheCatalog : {D : Type 0} → Meaning D → Core D → ℕ → Point → Type 0
LeavesTheCatalog m core t point = (o : Opening) (h : Entries) → StandsFor m core o h
    → LeavesCatalog point (deeds_by t (steps o h))

-- A call that was to take a transaction back was refused: the event is, and the transaction is rolled back where it was
-- given up; what is not its own goes on as it was, and a crash leaves the history from before.
pub record IsGivenUp {D P : Type 0} (m : Meaning D) (places : Places P) (old new : Core D) (t : TxNo)
    (event : Event) (refusal : Refusal) : Type 0 where
  pub gives_up : GivesUp (means m places) old new t event refusal
  pub leaves : Leaves (means m places) old new (Some refusal) (Some t.0) (Some t.0)
  pub crash : LeavesQuietly (means m places) old new
  pub sessions : SessionsStay (means m places) old new None (given_up_in {T = Unit {0}} t.0 (Err refusal))

-- So a call that was to take it back to a point was refused, and each session has one active transaction at most.
pub record GivenUpApart {D P : Type 0} (m : Meaning D) (places : Places P) (old new : Core D) (t : TxNo) (point : Point)
    (refusal : Refusal) : Type 0 where
  pub gives : IsGivenUp m places old new t (back_event t point) refusal
  pub apart : AreApart new.works

-- ---- what the calls owe

-- A transaction was to be taken back to its last mark.
pub record IsUndone {D P : Type 0} (m : Meaning D) (places : Places P) (old new : Core D) (t : TxNo)
    (result : Result (Unit {0}) Refusal) : Type 0 where
  pub undoes : Undoes (means m places) old new t result
  pub leaves : Leaves (means m places) old new (refusal_in result) (Some t.0) (Some t.0)
  pub crash : LeavesQuietly (means m places) old new
  pub sessions : SessionsStay (means m places) old new None (given_up_in t.0 result)
  -- each session has one active transaction at most, as it had
  pub apart : AreApart new.works

-- A transaction was to be taken back to its last savepoint of a name.
pub record IsBack {D P : Type 0} (m : Meaning D) (places : Places P) (old new : Core D) (t : TxNo) (name : List ℕ)
    (result : Result Bool Refusal) : Type 0 where
  pub goes : GoesBack (means m places) old new t name result
  pub leaves : Leaves (means m places) old new (refusal_in result) (Some t.0) (Some t.0)
  pub crash : LeavesQuietly (means m places) old new
  pub sessions : SessionsStay (means m places) old new None (given_up_in t.0 result)
  pub apart : AreApart new.works

-- ---- the laws

-- each outcome of the core's call, where no change since the mark is of the catalog
abbrev pub MarksGive : (D P : Type 0) → Meaning D → Type 0
MarksGive D P m = (places : Places P) (old new : Core D) (t : TxNo) (result : Result (Unit {0}) Refusal) → IsCore m old
    → AreCounts old → AreApart old.works → TellsTables old t.0 LastMark false
    → MatchResult result (λ _. TakesBackTo m old new t.0 LastMark) (FailsBackTo m old new t.0 LastMark)
    → IsUndone m places old new t result

abbrev pub SavepointsGive : (D P : Type 0) → Meaning D → Type 0
SavepointsGive D P m = (places : Places P) (old new : Core D) (t : TxNo) (name : List ℕ) (result : Result Bool Refusal)
    → IsCore m old → AreCounts old → AreApart old.works → TellsTables old t.0 (SavepointNamed name) false
    → GoesBackTo m old new t.0 name result → IsBack m places old new t name result
