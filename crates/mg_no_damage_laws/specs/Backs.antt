-- A transaction is taken back to a point without damage, where no table goes.
use Rattle.std.specs.Prelude.{ℕ, Bool, false, List, Result, MatchResult}
use Rattle.mg_base.specs.Disk.{Meaning}
use Rattle.mg_base.specs.declared.numbers.TxNo.{TxNo}
use Rattle.mg_core.specs.Cores.{IsCore}
use Rattle.mg_core.specs.declared.parts.Core.{Core}
use Rattle.mg_model.specs.declared.change.Point.TheVariants.{LastMark, SavepointNamed}
use Rattle.mg_model.specs.declared.refusal.Refusal.{Refusal}
use Rattle.mg_no_damage_laws.specs.Stands.{DamageStands}
use Rattle.mg_taking_back.specs.Tables.{TellsTables}
use Rattle.mg_taking_back.specs.Taking.{FailsBackTo, GoesBackTo, TakesBackTo}

-- each outcome of the core's call that goes back to the last mark, where no change since is of the catalog
abbrev pub MarksMeetNoDamage : (D : Type 0) → Meaning D → Type 0
MarksMeetNoDamage D m = (old new : Core D) (t : TxNo) (result : Result (Unit {0}) Refusal) → IsCore m old
    → TellsTables old t.0 LastMark false
    → MatchResult result (λ _. TakesBackTo m old new t.0 LastMark) (FailsBackTo m old new t.0 LastMark)
    → DamageStands m old new

-- and of the one that goes back to the last savepoint of a name
abbrev pub SavepointsMeetNoDamage : (D : Type 0) → Meaning D → Type 0
SavepointsMeetNoDamage D m = (old new : Core D) (t : TxNo) (name : List ℕ) (result : Result Bool Refusal)
    → IsCore m old → TellsTables old t.0 (SavepointNamed name) false → GoesBackTo m old new t.0 name result
    → DamageStands m old new
