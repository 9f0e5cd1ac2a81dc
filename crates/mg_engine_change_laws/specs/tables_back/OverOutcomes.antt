-- What the calls of the core that take a transaction back over tables owe a keeper of records.
use Rattle.std.specs.Prelude.{ℕ, Bool, List, MatchResult, Result}
use Rattle.mg_base.specs.Disk.{Meaning}
use Rattle.mg_base.specs.declared.numbers.TxNo.{TxNo}
use Rattle.mg_model.specs.declared.change.Point.{Point}
use Rattle.mg_model.specs.declared.change.Point.TheVariants.{LastMark}
use Rattle.mg_model.specs.declared.refusal.Refusal.{Refusal}
use Rattle.mg_works.specs.Works.{AreApart}
use Rattle.mg_core.specs.Cores.{IsCore}
use Rattle.mg_core.specs.declared.parts.Core.{Core}
use Rattle.mg_engine_meaning_laws.specs.Meaning.{Places}
use Rattle.mg_engine_change_laws.specs.memory.Notes.{AreCounts}
use Rattle.mg_engine_change_laws.specs.backs.Outcomes.{GivenUpApart, IsBack, IsUndone}
use Rattle.mg_table_takings.specs.Takings.{FailsTablesTo, GoesBackOver, TakesTablesTo}

-- Whatever refuses it, the history machine has the event for it: that is refused, and where the transaction is given up it
-- is rolled back.
abbrev pub RefusalsGiveOver : (D P : Type 0) → Meaning D → Type 0
RefusalsGiveOver D P m = (places : Places P) (old new : Core D) (t : TxNo) (point : Point) (refusal : Refusal)
    → IsCore m old → AreCounts old → AreApart old.works → FailsTablesTo m old new t.0 point refusal
    → GivenUpApart m places old new t point refusal

-- each outcome of the call that goes back to the last mark
abbrev pub MarksGiveOver : (D P : Type 0) → Meaning D → Type 0
MarksGiveOver D P m = (places : Places P) (old new : Core D) (t : TxNo) (result : Result (Unit {0}) Refusal)
    → IsCore m old → AreCounts old → AreApart old.works
    → MatchResult result (λ _. TakesTablesTo m old new t.0 LastMark) (FailsTablesTo m old new t.0 LastMark)
    → IsUndone m places old new t result

-- and of the one that goes back to the last savepoint of a name
abbrev pub SavepointsGiveOver : (D P : Type 0) → Meaning D → Type 0
SavepointsGiveOver D P m = (places : Places P) (old new : Core D) (t : TxNo) (name : List ℕ)
    (result : Result Bool Refusal) → IsCore m old → AreCounts old → AreApart old.works
    → GoesBackOver m old new t.0 name result → IsBack m places old new t name result
