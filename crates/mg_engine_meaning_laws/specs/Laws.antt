-- What is true of engines: of each that stands for a history, and of each call of an event without pages.
use Rattle.std.specs.Prelude.{ℕ, List, Option, None, Some, Result, Ok, Err}
use Rattle.mg_base.specs.Disk.{Meaning}
use Rattle.mg_base.specs.declared.numbers.TxNo.{TxNo}
use Rattle.mg_expr.specs.declared.expr.Expr.{Expr}
use Rattle.mg_model.specs.declared.event.Event.TheVariants.{Mark, Savepoint}
use Rattle.mg_model.specs.declared.refusal.Refusal.{Refusal}
use Rattle.mg_model.specs.Changes.{Cells}
use Rattle.mg_records.specs.Adding.{fine_or}
use Rattle.mg_records.specs.Committing.{PagesAreFew}
use Rattle.mg_records.specs.Crashing.{CrashesHold, HoldsOn, LeavesQuietly}
use Rattle.mg_records.specs.Keeping.{Leaves, refusal_in}
use Rattle.mg_records.specs.Reading.{FindAdds, TablesAreSeen, WalksAreWhole}
use Rattle.mg_records.specs.Sessions.{SessionsStay}
use Rattle.mg_core.specs.declared.parts.Core.{Core}
use Rattle.mg_core.specs.Cores.{Continues, IsCore, RefusesCall}
use Rattle.mg_core.specs.Events.{EndsWait, SetsPoint}
use Rattle.mg_engine_meaning_laws.specs.Frames.{GivesEvent}
use Rattle.mg_engine_meaning_laws.specs.Meaning.{Places, means}

-- An engine is a keeper of records, as far as that is said of each one by itself.
pub record IsKeeper {D P : Type 0} (m : Meaning D) (places : Places P) : Type 0 where
  pub seen : TablesAreSeen (means m places)
  pub whole : WalksAreWhole (means m places)
  pub few : PagesAreFew (means m places)
  pub crashes : CrashesHold (means m places)
  pub lasts : HoldsOn (means m places)

-- so is each, whatever its places are
abbrev pub EnginesKeep : (D P : Type 0) → Meaning D → Type 0
EnginesKeep D P m = (places : Places P) → IsKeeper m places

-- ---- calls

-- a mark, or a savepoint
abbrev pub MarksGoOn : (D P : Type 0) → Meaning D → Type 0
MarksGoOn D P m = (places : Places P) (old new : Core D) (t : TxNo)
    (result : Result (Unit {0}) Refusal) → IsCore m old → SetsPoint old new t.0 None result
    → GivesEvent m places old new (Mark t) (fine_or result) (refusal_in result) None None None None

abbrev pub SavepointsGoOn : (D P : Type 0) → Meaning D → Type 0
SavepointsGoOn D P m = (places : Places P) (old new : Core D) (t : TxNo) (name : List ℕ)
    (result : Result (Unit {0}) Refusal) → IsCore m old → SetsPoint old new t.0 (Some name) result
    → GivesEvent m places old new (Savepoint t name) (fine_or result) (refusal_in result) None None
    None None

-- what a statement found is told: the entry has the rows where they are the machine's; what others see goes
-- on as it was, whatever they are
pub record TellsFound {D P : Type 0} (m : Meaning D) (places : Places P) (old new : Core D) (t : TxNo)
    (name : List ℕ) (filter : Option Expr) (rows : List Cells) (result : Result (Unit {0}) Refusal)
    : Type 0 where
  pub adds : FindAdds (means m places) old new t name filter rows result
  pub leaves : Leaves (means m places) old new (refusal_in result) None None
  pub crash : LeavesQuietly (means m places) old new
  pub sessions : SessionsStay (means m places) old new None None

-- a call goes on, or is refused
abbrev pub GoesOnOr : {D : Type 0} → Core D → ℕ → Result (Unit {0}) Refusal → Type 0
GoesOnOr core t (Ok x) = Continues core t
GoesOnOr core t (Err refusal) = RefusesCall core t refusal

abbrev pub FoundGoesOn : (D P : Type 0) → Meaning D → Type 0
FoundGoesOn D P m = (places : Places P) (old new : Core D) (t : TxNo) (name : List ℕ)
    (filter : Option Expr) (rows : List Cells) (result : Result (Unit {0}) Refusal)
    → EndsWait old new t.0 → GoesOnOr old t.0 result
    → TellsFound m places old new t name filter rows result
