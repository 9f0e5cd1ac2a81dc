-- A transaction is taken back to a point without damage, over tables that it has made.
use Rattle.std.specs.Prelude.{ℕ, Bool, List, Result, MatchResult}
use Rattle.mg_base.specs.Disk.{Meaning}
use Rattle.mg_base.specs.declared.numbers.TxNo.{TxNo}
use Rattle.mg_core.specs.Cores.{IsCore}
use Rattle.mg_core.specs.declared.parts.Core.{Core}
use Rattle.mg_model.specs.declared.change.Point.TheVariants.{LastMark}
use Rattle.mg_model.specs.declared.refusal.Refusal.{Refusal}
use Rattle.mg_table_takings.specs.Takings.{FailsTablesTo, GoesBackOver, TakesTablesTo}
use Rattle.mg_no_damage_laws.specs.Stands.{DamageStands}

-- each outcome of the core's call that goes back to the last mark
abbrev pub MarksOverMeetNoDamage : (D : Type 0) → Meaning D → Type 0
MarksOverMeetNoDamage D m = (old new : Core D) (t : TxNo) (result : Result (Unit {0}) Refusal) → IsCore m old
    → MatchResult result (λ _. TakesTablesTo m old new t.0 LastMark) (FailsTablesTo m old new t.0 LastMark)
    → DamageStands m old new

-- and of the one that goes back to the last savepoint of a name
abbrev pub SavepointsOverMeetNoDamage : (D : Type 0) → Meaning D → Type 0
SavepointsOverMeetNoDamage D m = (old new : Core D) (t : TxNo) (name : List ℕ) (result : Result Bool Refusal)
    → IsCore m old → GoesBackOver m old new t.0 name result → DamageStands m old new
