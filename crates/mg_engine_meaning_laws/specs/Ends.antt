-- A transaction ends, as a keeper of records owes it.
use Rattle.std.specs.Prelude.{ℕ, Option, None, Some, Result, MatchResult}
use Rattle.mg_base.specs.Disk.{Meaning}
use Rattle.mg_base.specs.declared.numbers.TxNo.{TxNo}
use Rattle.mg_model.specs.declared.answer.Answer.{Answer}
use Rattle.mg_model.specs.declared.event.Event.{Event}
use Rattle.mg_model.specs.declared.event.Event.TheVariants.{Commit, Rollback}
use Rattle.mg_model.specs.declared.refusal.Refusal.{Refusal}
use Rattle.mg_records.specs.Adding.{Adds, fine_or}
use Rattle.mg_records.specs.Crashing.{LeavesWith}
use Rattle.mg_records.specs.Keeping.{Leaves, refusal_in}
use Rattle.mg_records.specs.Sessions.{SessionsStay, ended_in}
use Rattle.mg_works.specs.Works.{AreApart}
use Rattle.mg_core.specs.declared.parts.Core.{Core}
use Rattle.mg_core.specs.Cores.{IsCore}
use Rattle.mg_core.specs.Ending.{Commits, RefusesCommit}
use Rattle.mg_core.specs.Events.{IsRefused, RollsBack}
use Rattle.mg_engine_meaning_laws.specs.Frames.{GivesEvent}
use Rattle.mg_engine_meaning_laws.specs.Meaning.{HasWrittenAll, Places, means}

-- A call gives a durable event: its entry comes to the history, what is not its transaction's goes on as it was, and
-- a crash in the call leaves the history with the event under way.
pub record GivesDurable {D P : Type 0} (m : Meaning D) (places : Places P) (old new : Core D)
    (event : Event) (answer : Answer) (refusal : Option Refusal) (tables walks ends : Option ℕ) : Type 0
  where
    pub adds : Adds (means m places) old new event answer
    pub leaves : Leaves (means m places) old new refusal tables walks
    pub crash : LeavesWith (means m places) old new event answer
    pub sessions : SessionsStay (means m places) old new None ends

-- a transaction is rolled back: its session is free, and all others go on as they were
abbrev pub RollbacksGo : (D P : Type 0) → Meaning D → Type 0
RollbacksGo D P m = (places : Places P) (old new : Core D) (t : TxNo) (result : Result (Unit {0}) Refusal)
    → IsCore m old → AreApart old.works
    → MatchResult result (λ _. RollsBack old new t.0) (IsRefused old new t.0)
    → GivesEvent m places old new (Rollback t) (fine_or result) (refusal_in result) (Some t.0) (Some t.0) None
    (ended_in t.0 result)

-- a transaction is committed, of whose pages none is left to be written: its session is free, and all others go on as
-- they were; or the commit is refused, or a page write fails
abbrev pub CommitsGo : (D P : Type 0) → Meaning D → Type 0
CommitsGo D P m = (places : Places P) (old new : Core D) (t : TxNo) (result : Result (Unit {0}) Refusal)
    → IsCore m old → AreApart old.works → HasWrittenAll old t.0
    → MatchResult result (λ _. Commits m old new t.0) (RefusesCommit m old new t.0)
    → GivesDurable m places old new (Commit t) (fine_or result) (refusal_in result) (Some t.0) (Some t.0)
    (ended_in t.0 result)
